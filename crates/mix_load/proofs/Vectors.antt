-- The main vector by its section and offset.
use Rattle.std.proofs.Common.{◌≡◌, ap, ◌∙◌, refl, ℕ, ◌+◌, ◌<◌, ◌≤◌, Bool, true, false, ◌&&◌, nat_lt, nat_le, if◌then◌else◌, List, Some, None, arith}
use Rattle.std.proofs.lemmas.Bool.Decides.{nat_tests}
use Rattle.pef_head.specs.Container.{instantiated_count}
use Rattle.pef_head.specs.Parts.{main_of}
use Rattle.mix_load.specs.Sections.{main_vector, section_base, vector_in}
use Rattle.mix_load.specs.laws.Sections.{total_at}

neither : (a b : Bool) (x : ℕ) → b ≡ false → (if a && b then Some x else None) ≡ None
neither true b x q = rw q refl
neither false b x q = refl

pub vector-cut : (bytes : List ℕ) (start section offset : ℕ) → main_of bytes ≡ Some (section, offset) → total_at bytes section < offset + 8 → main_vector bytes start ≡ None
vector-cut bytes start section offset is lt =
    let out : nat_le (offset + 8) (total_at bytes section) ≡ false = grind (arith, nat_tests) in
    ap (vector_in bytes start) is ∙ neither (nat_lt section (instantiated_count bytes)) (nat_le (offset + 8) (total_at bytes section)) (section_base bytes start section + offset) out

pub vector-there : (bytes : List ℕ) (start section offset : ℕ) → main_of bytes ≡ Some (section, offset) → section < instantiated_count bytes → offset + 8 ≤ total_at bytes section
    → main_vector bytes start ≡ Some (section_base bytes start section + offset)
vector-there bytes start section offset is lt le =
    let one : nat_lt section (instantiated_count bytes) ≡ true = grind (arith, nat_tests) in
    let two : nat_le (offset + 8) (total_at bytes section) ≡ true = grind (arith, nat_tests) in
    ap (vector_in bytes start) is ∙ rw (one, two) refl
