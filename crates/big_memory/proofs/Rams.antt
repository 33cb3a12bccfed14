-- Laws of loads, of what every memory meets, and of the units below the stack.
use Rattle.std.proofs.Common.{◌≡◌, ◌⊎◌, zero, suc, ◌+◌, ◌*◌, ◌%◌, ◌<◌, ◌≤◌, inl, false, length, Ok, arith, sym, ◌∙◌, ap, subst, refl}
use Rattle.std.proofs.lemmas.List.{places}
use Rattle.std.proofs.lemmas.Bool.Decides.{nat_tests}
use Rattle.mix_bits.specs.declared.size.Size.TheVariants.{Zero, One, Two, Four}
use Rattle.big_memory.specs.Lists.{put}
use Rattle.big_memory.specs.Memory.{meets_gate, meets_guard}
use Rattle.big_memory.specs.laws.Laws.{BytesKeepRam, BytesStayBeside, InMemoryWithin, LoadsPart, MarksKeepRam, MarksOfRange, OpenBelowFloor}
use Rattle.big_memory.proofs.Lists.{length-put, get_or-put_outside, get_or-put_replicate}
use Rattle.big_memory.proofs.Guarded.{refusal-none, test_from_free}

pub loads_part : LoadsPart
loads_part m a Zero within = refl
loads_part m a One within = rw within (ap Ok (grind (arith, places)))
loads_part m a Two within = rw within (ap Ok (grind (arith, places)))
loads_part m a Four within = rw within (ap Ok (grind (arith, places)))

pub in_memory_within : InMemoryWithin
in_memory_within m a n b k inside from to = grind (arith, nat_tests)

pub bytes_keep_ram : BytesKeepRam
bytes_keep_ram m at ys within ram =
    let same : length (put at ys m.bytes) ≡ length m.bytes = length-put at ys m.bytes within in
    record {
      units = same ∙ ram.units;
      least = omega (arith, same, ram.least);
      most = omega (arith, same, ram.most);
      whole = ap (λ n. n % 1024) same ∙ ram.whole;
      clear = λ unit low. ram.clear unit (omega (arith, same, low));
    }

pub marks_keep_ram : MarksKeepRam
marks_keep_ram m first ys stack within ram = record {
  units = ram.units ∙ ap (λ n. 16 * n) (sym (length-put first ys m.marks within));
  least = ram.least;
  most = ram.most;
  whole = ram.whole;
  clear = λ unit low. get_or-put_outside first unit ys m.marks false within (inl (omega (arith, stack, low))) ∙ ram.clear unit low;
}

pub marks_of_range : MarksOfRange
marks_of_range m first n unit on within = get_or-put_replicate first n unit on false m.marks within

pub open_below_floor : OpenBelowFloor
open_below_floor m a zero ram above below = refl
open_below_floor m a (suc n) ram above below =
    let within : a + suc n ≤ length m.bytes = omega (arith, below) in
    let gate : meets_gate a (suc n) ≡ false = grind (arith, nat_tests) in
    let guard : meets_guard m a (suc n) ≡ false =
    test_from_free m a (suc n) ram.units (omega arith) within (λ unit low high. ram.clear unit (omega (arith, high, below))) in
    refusal-none m a (suc n) (omega arith) (record { within = within; gate = gate; guard = guard })

pub stay_beside : BytesStayBeside
stay_beside m low high ys end within = record {
  marks = refl;
  long = length-put low ys m.bytes (omega (arith, end, within));
  bytes = λ a apart. get_or-put_outside low a ys m.bytes 0 (omega (arith, end, within)) (subst (λ n. (a < low) ⊎ (n ≤ a)) (sym end) apart);
}
