-- What stops a walk, as it is tested.
use Rattle.std.proofs.Common.{◌≡◌, ℕ, ◌==◌, bytes_eq, Bool, true, false, if◌then◌else◌, List, [], ◌∷◌, map, IfSome, Option, None, Some, All, refl, sym, ap, ◌∙◌, subst}
use Rattle.std.specs.List.{list_any}
use Rattle.std.proofs.lemmas.List.Elements.{All-cons, All-head, All-nil, All-tail}
use Rattle.std.proofs.lemmas.Slice.Eq.{bytes_eq-Decides}
use Rattle.mix_bits.specs.declared.isa.Isa.{Isa}
use Rattle.big_memory.specs.Lists.{part}
use Rattle.switch_frame.specs.Files.{pc_of}
use Rattle.switch_frame.specs.Records.{isa_of}
use Rattle.mix_engine.specs.declared.machine.Machine.{Machine}
use Rattle.gdb_steps.specs.Points.{Range, first_changed, halt_at, halt_by, is_set, range_of}
use Rattle.gdb_steps.specs.declared.halt.Halt.{Halt}
use Rattle.gdb_steps.specs.declared.halt.Halt.TheVariants.{Arrived, Breakpoint}
use Rattle.gdb_steps.specs.declared.halt.Until.{Until}
use Rattle.gdb_steps.specs.declared.halt.Until.TheVariants as Wanted
use Rattle.gdb_steps.specs.declared.watch.Watch.{Watch}
use Rattle.gdb_steps.specs.inner.Looks.{HasSeen, Plain, first_unlike}
use Rattle.gdb_steps.specs.inner.Looks.Plain.{AtBreak, AtWatch, There}
use Rattle.gdb_steps.specs.inner.Onces.{halt_seen}

-- ---- bytes that were seen are those of the memory before

unlike-by : (seen before : List ℕ) (rest rest_too : Option ℕ) (new : List ℕ) (a : ℕ) → seen ≡ before → rest ≡ rest_too
    → (if bytes_eq seen new then rest else Some a) ≡ (if bytes_eq before new then rest_too else Some a)
unlike-by seen before rest rest_too new a is same =
    ap (λ xs. if bytes_eq xs new then rest else Some a) is ∙ ap (λ (o : Option ℕ). if bytes_eq before new then o else Some a) same

pub unlike-changed : (old new : List ℕ) (ws : List Watch) → All (HasSeen old) ws → first_unlike ws new ≡ first_changed (map range_of ws) old new
unfolding first_unlike first_changed
unlike-changed old new [] all = refl
unlike-changed old new (w ∷ ws) all =
    unlike-by w.seen.items (part w.at w.count old) (first_unlike ws new) (first_changed (map range_of ws) old new) (part w.at w.count new) w.at (All-head (HasSeen old) w ws all) (unlike-changed old new ws (All-tail (HasSeen old) w ws all))

pub seen-halt : (breaks : List ℕ) (ws : List Watch) (until : Until) (old : List ℕ) (m : Machine) → All (HasSeen old) ws
    → halt_seen breaks ws until m ≡ halt_at (record { breaks = breaks; watches = map range_of ws }) until old m.body.ram.bytes m.active
seen-halt breaks ws until old m all =
    ap (λ (o : Option ℕ). if list_any (λ b. b == pc_of m.active) breaks then Some Breakpoint else halt_by until (isa_of m.active) o) (unlike-changed old m.body.ram.bytes ws all)

-- ---- a walk is not stopped by an end of the program there

some-is : {x y : Halt} → Some x ≡ Some y → x ≡ y
some-is e = cc

by-set : (b : Bool) (halt : Halt) → (if b then Some Arrived else None) ≡ Some halt → Plain halt
by-set true halt is = subst Plain (some-is is) There
by-set false halt is = cc

plain-by : (until : Until) (set : Isa) (o : Option ℕ) (halt : Halt) → halt_by until set o ≡ Some halt → Plain halt
plain-by until set (Some a) halt is = subst Plain (some-is is) (AtWatch a)
plain-by Wanted.Stopped set None halt is = cc
plain-by (Wanted.Active wanted) set None halt is = by-set (is_set wanted set) halt is

plain-if : (b : Bool) (until : Until) (set : Isa) (o : Option ℕ) (halt : Halt) → (if b then Some Breakpoint else halt_by until set o) ≡ Some halt → Plain halt
plain-if true until set o halt is = subst Plain (some-is is) AtBreak
plain-if false until set o halt is = plain-by until set o halt is

pub plain-seen : (breaks : List ℕ) (ws : List Watch) (until : Until) (m : Machine) (halt : Halt) → halt_seen breaks ws until m ≡ Some halt → Plain halt
plain-seen breaks ws until m halt is = plain-if (list_any (λ b. b == pc_of m.active) breaks) until (isa_of m.active) (first_unlike ws m.body.ram.bytes) halt is

-- ---- where nothing stops a walk, what was seen is what is there

same-by : (seen new : List ℕ) (b : Bool) (rest : Option ℕ) (a : ℕ) → bytes_eq seen new ≡ b → (if b then rest else Some a) ≡ None → (seen ≡ new) × (rest ≡ None)
same-by seen new true rest a is none = ((bytes_eq-Decides seen new).0 is, none)
same-by seen new false rest a is none = cc

still-unlike : (new : List ℕ) (ws : List Watch) → first_unlike ws new ≡ None → All (HasSeen new) ws
unfolding first_unlike
still-unlike new [] none = All-nil (HasSeen new)
still-unlike new (w ∷ ws) none =
    let both = same-by w.seen.items (part w.at w.count new) (bytes_eq w.seen.items (part w.at w.count new)) (first_unlike ws new) w.at refl none in
    All-cons (HasSeen new) w ws both.0 (still-unlike new ws both.1)

none-by : (until : Until) (set : Isa) (o : Option ℕ) → halt_by until set o ≡ None → o ≡ None
none-by until set (Some a) is = cc
none-by until set None is = refl

none-if : (b : Bool) (until : Until) (set : Isa) (o : Option ℕ) → (if b then Some Breakpoint else halt_by until set o) ≡ None → o ≡ None
none-if true until set o is = cc
none-if false until set o is = none-by until set o is

pub still-seen : (breaks : List ℕ) (ws : List Watch) (until : Until) (m : Machine) → halt_seen breaks ws until m ≡ None → All (HasSeen m.body.ram.bytes) ws
still-seen breaks ws until m is =
    still-unlike m.body.ram.bytes ws (none-if (list_any (λ b. b == pc_of m.active) breaks) until (isa_of m.active) (first_unlike ws m.body.ram.bytes) is)

pub plain-some : (b : Bool) (until : Until) (set : Isa) (o : Option ℕ) (halt : Option Halt) → halt ≡ (if b then Some Breakpoint else halt_by until set o) → IfSome halt Plain
plain-some b until set o None is = tt
plain-some b until set o (Some halt) is = plain-if b until set o halt (sym is)

-- ---- bytes changed either way

bool-same : (t u : Bool) → (t ≡ true → u ≡ true) → (u ≡ true → t ≡ true) → t ≡ u
bool-same true u to from = sym (to refl)
bool-same false true to from = from refl
bool-same false false to from = refl

bytes-either : (xs ys : List ℕ) → bytes_eq xs ys ≡ bytes_eq ys xs
bytes-either xs ys =
    bool-same (bytes_eq xs ys) (bytes_eq ys xs) (λ e. (bytes_eq-Decides ys xs).1 (sym ((bytes_eq-Decides xs ys).0 e))) (λ e. (bytes_eq-Decides xs ys).1 (sym ((bytes_eq-Decides ys xs).0 e)))

either-by : (t u : Bool) (rest rest_too : Option ℕ) (a : ℕ) → t ≡ u → rest ≡ rest_too → (if t then rest else Some a) ≡ (if u then rest_too else Some a)
either-by t u rest rest_too a is same = ap (λ (b : Bool). if b then rest else Some a) is ∙ ap (λ (o : Option ℕ). if u then o else Some a) same

pub changed-either : (rs : List Range) (old new : List ℕ) → first_changed rs old new ≡ first_changed rs new old
unfolding first_changed
changed-either [] old new = refl
changed-either (r ∷ rs) old new =
    either-by (bytes_eq (part r.at r.count old) (part r.at r.count new)) (bytes_eq (part r.at r.count new) (part r.at r.count old)) (first_changed rs old new) (first_changed rs new old) r.at
    (bytes-either (part r.at r.count old) (part r.at r.count new)) (changed-either rs old new)
