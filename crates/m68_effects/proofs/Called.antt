-- Calls and returns, and frames that are linked and unlinked.
use Rattle.std.proofs.Common.{◌≡◌, ◌≢◌, ℕ, ◌^◌, ◌<◌, ◌∙◌, List, length, get_or, Result, Ok, Err, refl, sym, ap, subst, arith, lit<, get_or-set_same, get_or-set_other}
use Rattle.std.specs.Prelude.{slice_index}
use Rattle.std.proofs.Math.ListN.{set}
use Rattle.std.proofs.lemmas.List.{length-set, set-set, set_comm, set-get_or}
use Rattle.mix_bits.specs.declared.size.Size.TheVariants.{Four}
use Rattle.mix_bits.specs.declared.fault.Fault.{Fault}
use Rattle.mix_bits.specs.Addresses.{onward}
use Rattle.mix_bits.specs.Results.{◌>>=◌}
use Rattle.m68_isa.specs.declared.registers.Regs68.{Regs68}
use Rattle.m68_isa.specs.declared.instructions.PlainOp.TheVariants.{Rts}
use Rattle.m68_isa.specs.declared.instructions.JumpOp.TheVariants.{Jsr}
use Rattle.m68_isa.specs.declared.instructions.Instr68.{Instr68}
use Rattle.m68_isa.specs.declared.instructions.Instr68.TheVariants.{Link, LinkLong, Unlk, Plain, Jump, Bcc, BccLong}
use Rattle.m68_isa.specs.Targets.{branch_target}
use Rattle.big_memory.specs.declared.refusals.Access.{Access}
use Rattle.big_memory.specs.Memory.{Memory, loaded}
use Rattle.big_memory.specs.Stores.{stored_value}
use Rattle.m68_ea.specs.Accesses.{or_fault}
use Rattle.m68_ea.specs.Operands.{stored_at}
use Rattle.m68_ea.specs.Places.{address_of, with_address}
use Rattle.mix_bits.specs.Addresses.{backward}
use Rattle.m68_effects.specs.Control.{bcc, called}
use Rattle.m68_effects.specs.Movement.{link}
use Rattle.m68_effects.specs.laws.Laws.{IsCall, IsFile, IsLink, LeavesLong, Returns, ReturnsAtOnce, Unlinks, UnlinksAtOnce}
use Rattle.m68_effects.specs.Parts.{Effect, goes_on}
use Rattle.m68_effects.specs.Rows.{effect}
use Rattle.big_memory.proofs.Longs.{stored_loads}
use Rattle.m68_effects.proofs.Pushed.{behind, forth-back, popped_is, pushed_from, top, whole-truncated}

-- the number at an address that was pushed, in memory that leaves it
long-left : (m n k : Memory) (at a v : ℕ) → at ≡ a → v < 2 ^ 32 → stored_value m a Four v ≡ Ok n → loaded k at Four ≡ loaded n at Four → loaded k a Four ≡ Ok v
long-left m n k at a v same fits stores left =
    ap (λ x. loaded k x Four) (sym same) ∙ left ∙ ap (λ x. loaded n x Four) same ∙ stored_loads m n a Four v stores ∙ ap (λ w. Ok w) (whole-truncated v fits)

-- a call by either instruction
abbrev goes_to : ℕ → Regs68 → Regs68
goes_to target r = record r { pc = target }

pub record IsCalled (r : Regs68) (m : Memory) (next : ℕ) (q : Regs68) (n : Memory) : Type 0 where
  pub target : ℕ
  pub stores : stored_value m (backward (slice_index r.a 7) 4) Four next ≡ Ok n
  pub registers : q ≡ goes_to target (pushed_from r 7 4)

called-at : (r q : Regs68) (m n : Memory) (next target : ℕ) → called r m next target ≡ Ok (q, n) → IsCalled r m next q n
called-at r q m n next target is =
    let done = behind (stored_value m (backward (slice_index r.a 7) 4) Four next) r.pc (pushed_from r 7 4) q n (goes_to target) is in
    record { target = target; stores = done.0; registers = done.1 }

branch-is : (r q : Regs68) (m n : Memory) (next condition displacement : ℕ) → condition ≡ 1 → bcc r m next condition displacement ≡ Ok (q, n) → IsCalled r m next q n
branch-is r q m n next condition displacement call is =
    let one : bcc r m next 1 displacement ≡ Ok (q, n) = subst (λ c. bcc r m next c displacement ≡ Ok (q, n)) call is in
    called-at r q m n next (branch_target r.pc displacement) one

call-is : (r q : Regs68) (m n : Memory) (next : ℕ) (call : Instr68) → IsCall call → effect r m next call ≡ Ok (q, n) → IsCalled r m next q n
call-is r q m n next (Jump Jsr to) call is = called-at r q m n next (address_of r to) is
call-is r q m n next (Bcc condition displacement) call is = branch-is r q m n next condition displacement call is
call-is r q m n next (BccLong condition displacement) call is = branch-is r q m n next condition displacement call is
call-is r q m n next _ call is = absurd call

-- the return
abbrev to_popped : Memory → Regs68 × ℕ → Effect
to_popped m found = goes_on found.1 found.0 m

return-from : (r q p : Regs68) (m n k : Memory) (next last : ℕ) → IsFile r → next < 2 ^ 32 → IsCalled r m next q n → LeavesLong 7 q n p k
    → effect p k last (Plain Rts) ≡ goes_on next (with_address p 7 (slice_index r.a 7)) k
return-from r q p m n k next last file fits is left =
    let a : ℕ = backward (slice_index r.a 7) 4 in
    let here : slice_index q.a 7 ≡ a = ap (λ (t : Regs68). slice_index t.a 7) is.registers ∙ top r 7 a file.address_registers.count (lit< tt) in
    ap (λ (found : Result (Regs68 × ℕ) Fault). found >>= to_popped k) (popped_is p k Four 7 a next (left.pointer ∙ here) (long-left m n k (slice_index q.a 7) a next here fits is.stores left.long))
    ∙ ap (λ x. goes_on next (with_address p 7 x) k) (forth-back (slice_index r.a 7) 4 (file.address_registers.each 7) (lit< tt))

pub returns_behind : Returns
returns_behind r q p m n k next last call file fits calls is left = return-from r q p m n k next last file fits (call-is r q m n next call calls is) left

pub returns_at_once : ReturnsAtOnce
returns_at_once r q m n next last call file fits calls is =
    let made = call-is r q m n next call calls is in
    let whole : Regs68 → Effect = λ t. goes_on next (with_address t 7 (slice_index r.a 7)) n in
    let back : set (set r.a 7 (backward (slice_index r.a 7) 4)) 7 (slice_index r.a 7) ≡ r.a = set-set r.a 7 _ _ ∙ set-get_or r.a 7 0 in
    return-from r q q m n n next last file fits made (record { pointer = refl; long = refl })
    ∙ ap whole made.registers ∙ ap (λ xs. goes_on next (record r { a = xs }) n) back

-- a frame
abbrev linked : Regs68 → ℕ → ℕ → ℕ → ℕ → Regs68
linked r next frame a displacement = record (with_address (with_address (pushed_from r 7 4) frame a) 7 (onward a displacement)) { pc = next }

pub record IsLinked (r : Regs68) (m : Memory) (next frame displacement : ℕ) (q : Regs68) (n : Memory) : Type 0 where
  pub stores : stored_value m (backward (slice_index r.a 7) 4) Four (slice_index r.a frame) ≡ Ok n
  pub registers : q ≡ linked r next frame (backward (slice_index r.a 7) 4) displacement

-- registers beside memory
abbrev ok_or_fault : Memory → Result Memory Fault
ok_or_fault m = Ok m

abbrev pub at_memory : Regs68 → Memory → Effect
at_memory p m = Ok (p, m)

pub behind-one : (x : Result Memory Fault) (p q : Regs68) (n : Memory) → (x >>= at_memory p) ≡ Ok (q, n) → (x ≡ Ok n) × (q ≡ p)
behind-one (Ok m) p q n is =
    let left : Regs68 × Memory = (p, m) in
    let right : Regs68 × Memory = (q, n) in
    let same : left ≡ right = cc in
    (ap (λ (z : Regs68 × Memory). ok_or_fault z.1) same, ap (λ (z : Regs68 × Memory). z.0) (sym same))
behind-one (Err e) p q n is = absurd (cc)

not-refused : (x : Result Memory Access) (pc : ℕ) (n : Memory) → or_fault pc x ≡ Ok n → x ≡ Ok n
not-refused (Ok m) pc n is = let same : m ≡ n = cc in ap (λ k. Ok k) same
not-refused (Err e) pc n is = absurd (cc)

link-from : (r q : Regs68) (m n : Memory) (next frame displacement at v : ℕ) → at ≡ backward (slice_index r.a 7) 4 → v ≡ slice_index r.a frame
    → (stored_at r.pc m at Four v >>= at_memory (linked r next frame at displacement)) ≡ Ok (q, n) → IsLinked r m next frame displacement q n
link-from r q m n next frame displacement at v same value is =
    let done = behind-one (stored_at r.pc m at Four v) (linked r next frame at displacement) q n is in
    let stores = not-refused (stored_value m at Four v) r.pc n done.0 in
    record {
      stores = subst (λ x. stored_value m x Four (slice_index r.a frame) ≡ Ok n) same (subst (λ w. stored_value m at Four w ≡ Ok n) value stores);
      registers = done.1 ∙ ap (λ x. linked r next frame x displacement) same;
    }

not-top : (frame : ℕ) → frame < 7 → frame ≢ 7
not-top frame low = omega arith

abbrev displacement_of : Instr68 → ℕ
displacement_of (Link register displacement) = displacement
displacement_of (LinkLong register displacement) = displacement
displacement_of _ = 0

link-at : (r q : Regs68) (m n : Memory) (next frame displacement : ℕ) → length r.a ≡ 8 → frame < 7
    → link r m next frame displacement ≡ Ok (q, n) → IsLinked r m next frame displacement q n
link-at r q m n next frame displacement count low is =
    let a : ℕ = backward (slice_index r.a 7) 4 in
    link-from r q m n next frame displacement (slice_index (pushed_from r 7 4).a 7) (slice_index (pushed_from r 7 4).a frame) (top r 7 a count (lit< tt)) (get_or-set_other r.a 7 frame a 0 (not-top frame low)) is

link-of : (r q : Regs68) (m n : Memory) (next frame register displacement : ℕ) → length r.a ≡ 8 → frame < 7 → register ≡ frame
    → link r m next register displacement ≡ Ok (q, n) → IsLinked r m next frame displacement q n
link-of r q m n next frame register displacement count low same is =
    link-at r q m n next frame displacement count low (subst (λ k. link r m next k displacement ≡ Ok (q, n)) same is)

link-is : (r q : Regs68) (m n : Memory) (next frame : ℕ) (first : Instr68) → length r.a ≡ 8 → frame < 7 → IsLink first frame
    → effect r m next first ≡ Ok (q, n) → IsLinked r m next frame (displacement_of first) q n
link-is r q m n next frame (Link register displacement) count low same is = link-of r q m n next frame register displacement count low same is
link-is r q m n next frame (LinkLong register displacement) count low same is = link-of r q m n next frame register displacement count low same is
link-is r q m n next frame _ count low same is = absurd same

-- the frame's end
abbrev to_register : Memory → ℕ → ℕ → Regs68 × ℕ → Effect
to_register m last frame found = goes_on last (with_address found.0 frame found.1) m

unlink-from : (r q p : Regs68) (m n k : Memory) (next last frame displacement : ℕ) → IsFile r → length p.a ≡ 8 → frame < 7
    → IsLinked r m next frame displacement q n → LeavesLong frame q n p k
    → effect p k last (Unlk frame) ≡ goes_on last (with_address (with_address p 7 (slice_index r.a 7)) frame (slice_index r.a frame)) k
unlink-from r q p m n k next last frame displacement file count low is left =
    let a : ℕ = backward (slice_index r.a 7) 4 in
    let v : ℕ = slice_index r.a frame in
    let old_count : length r.a ≡ 8 = file.address_registers.count in
    let there : frame < length (set r.a 7 a) = rw length-set (omega arith) in
    let here : slice_index q.a frame ≡ a =
    ap (λ (t : Regs68). slice_index t.a frame) is.registers ∙ get_or-set_other (set (set r.a 7 a) frame a) 7 frame (onward a displacement) 0 (not-top frame low) ∙ get_or-set_same (set r.a 7 a) frame a 0 there in
    let x : ℕ = slice_index p.a frame in
    ap (λ (found : Result (Regs68 × ℕ) Fault). found >>= to_register k last frame)
    (popped_is (with_address p 7 x) k Four 7 a v (top p 7 x count (lit< tt) ∙ left.pointer ∙ here) (long-left m n k (slice_index q.a frame) a v here (file.address_registers.each frame) is.stores left.long))
    ∙ ap (λ xs. goes_on last (with_address (record p { a = xs }) frame v) k) (set-set p.a 7 x (onward a 4) ∙ ap (set p.a 7) (forth-back (slice_index r.a 7) 4 (file.address_registers.each 7) (lit< tt)))

pub unlinks : Unlinks
unlinks r q p m n k next last frame first file other low links is left =
    unlink-from r q p m n k next last frame (displacement_of first) file other.address_registers.count low (link-is r q m n next frame first file.address_registers.count low links is) left

both-back : (xs : List ℕ) (frame a z : ℕ) → frame ≢ 7 → set (set (set (set (set xs 7 a) frame a) 7 z) 7 (get_or xs 7 0)) frame (get_or xs frame 0) ≡ xs
both-back xs frame a z other =
    let first : set (set (set (set xs 7 a) frame a) 7 z) 7 (get_or xs 7 0) ≡ set xs frame a =
    set-set (set (set xs 7 a) frame a) 7 z (get_or xs 7 0) ∙ set_comm (set xs 7 a) frame 7 a (get_or xs 7 0) other
    ∙ ap (λ ys. set ys frame a) (set-set xs 7 a (get_or xs 7 0) ∙ set-get_or xs 7 0) in
    ap (λ ys. set ys frame (get_or xs frame 0)) first ∙ set-set xs frame a (get_or xs frame 0) ∙ set-get_or xs frame 0

linked-count : (r : Regs68) (next frame a displacement : ℕ) → length r.a ≡ 8 → length (linked r next frame a displacement).a ≡ 8
linked-count r next frame a displacement count = rw (length-set, length-set, length-set) count

pub unlinks_at_once : UnlinksAtOnce
unlinks_at_once r q m n next last frame first file low links is =
    let displacement : ℕ = displacement_of first in
    let made = link-is r q m n next frame first file.address_registers.count low links is in
    let a : ℕ = backward (slice_index r.a 7) 4 in
    let whole : Regs68 → Effect = λ t. goes_on last (with_address (with_address t 7 (slice_index r.a 7)) frame (slice_index r.a frame)) n in
    let count : length q.a ≡ 8 = ap (λ (t : Regs68). length t.a) made.registers ∙ linked-count r next frame a displacement file.address_registers.count in
    unlink-from r q q m n n next last frame displacement file count low made (record { pointer = refl; long = refl })
    ∙ ap whole made.registers ∙ ap (λ xs. goes_on last (record r { a = xs }) n) (both-back r.a frame a (onward a displacement) (not-top frame low))
