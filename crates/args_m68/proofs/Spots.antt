-- No two values of a call share anything.
use Rattle.std.proofs.Common.{◌≡◌, ◌≢◌, inl, inr, ℕ, ◌+◌, ◌-◌, ◌*◌, ◌<◌, ◌≤◌, Bool, true, false, true≢false, ◌==◌, List, [], ◌∷◌, ◌++◌, length, get_or, Result, Ok, arith, refl, sym, ap, ◌∙◌, subst}
use Rattle.std.specs.List.{list_any, All, AllPairs}
use Rattle.std.proofs.lemmas.Bool.{cases_lt, lt-ltb, le-ltb, eqb-false}
use Rattle.std.proofs.lemmas.List.{append-nil}
use Rattle.std.proofs.lemmas.List.Elements.{All-nil, All-cons, All-append}
use Rattle.std.proofs.lemmas.List.Kept.{AllPairs-cons}
use Rattle.std.proofs.lemmas.List.Quantifiers.{all_pairs_push}
use Rattle.mix_bits.specs.Results.{◌>>=◌}
use Rattle.mix_bits.specs.Sizes.{bytes_of}
use Rattle.mix_bits.specs.declared.size.Size.{Size}
use Rattle.mix_bits.specs.declared.size.Size.TheVariants.{Four}
use Rattle.mix_bits.proofs.Sizes.{bytes-few}
use Rattle.big_memory.specs.declared.refusals.Access.{Access}
use Rattle.proc_info.specs.declared.conv.Conv.{Conv}
use Rattle.proc_info.specs.declared.conv.Conv.TheVariants.{Pascal, C, Register, D0Pascal, D0C, D1Pascal, StackPascal}
use Rattle.proc_info.specs.declared.param.Param.{Param}
use Rattle.proc_info.specs.Codes.{is_dispatched}
use Rattle.proc_info.specs.Rules.{KeepsRules}
use Rattle.proc_info.specs.Signature.{Signature, is_twice}
use Rattle.args_m68.specs.declared.places.Place.{Place}
use Rattle.args_m68.specs.declared.places.Place.TheVariants.{Stack, Data, Address, Condition}
use Rattle.proc_info.specs.declared.conv.Route.TheVariants.{PascalStack, CStack, Registers}
use Rattle.proc_info.specs.Routes.{route_of}
use Rattle.args_m68.specs.Places.{next_base, place_numbered, place_of, selector_width, width, widths}
use Rattle.args_m68.specs.Values.{value_at}
use Rattle.args_m68.specs.laws.Apart.{AreReadThere, HasByte, IsApart, PlacesAreApart, Spot, call_spots, param_spots}
use Rattle.args_m68.proofs.Stacks.{bytes-width}
use Rattle.args_m68.proofs.Files.{AllHeld, none-first, none-later, rest-held}

-- parameters are read at their places
pub are-read : AreReadThere
are-read r m route base [] = refl
are-read r m route base (p ∷ ps) =
    ap (λ (others : Result (List ℕ) Access). value_at r m (place_of route base p (widths ps)) p.size >>= λ v. others >>= λ vs. Ok (v ∷ vs))
    (are-read r m route (next_base route base) ps)

-- a value on the stack, all of it from `low` on and below `high`
abbrev LiesAt : Place → Size → ℕ → ℕ → Type 0
LiesAt (Stack from) s low high = (low ≤ from) × (from + bytes_of s ≤ high)
LiesAt (Data n) s low high = ⊥
LiesAt (Address n) s low high = ⊥
LiesAt (Condition flag) s low high = ⊥

abbrev Lies : ℕ → ℕ → Spot → Type 0
Lies low high x = LiesAt x.place x.size low high

-- a value that is not on the stack, or from `low` on
abbrev IsBeyondAt : Place → ℕ → Type 0
IsBeyondAt (Stack from) low = low ≤ from
IsBeyondAt (Data n) low = Unit {0}
IsBeyondAt (Address n) low = Unit {0}
IsBeyondAt (Condition flag) low = Unit {0}

abbrev IsBeyond : ℕ → Spot → Type 0
IsBeyond low x = IsBeyondAt x.place low

wider : (p : Place) (s : Size) (low high lower higher : ℕ) → lower ≤ low → high ≤ higher → LiesAt p s low high → LiesAt p s lower higher
wider (Stack from) s low high lower higher down up lies = (omega (arith, down, lies.0), omega (arith, up, lies.1))
wider (Data n) s low high lower higher down up lies = absurd lies
wider (Address n) s low high lower higher down up lies = absurd lies
wider (Condition flag) s low high lower higher down up lies = absurd lies

beyond : (p : Place) (s : Size) (low high lower : ℕ) → lower ≤ low → LiesAt p s low high → IsBeyondAt p lower
beyond (Stack from) s low high lower down lies = omega (arith, down, lies.0)
beyond (Data n) s low high lower down lies = tt
beyond (Address n) s low high lower down lies = tt
beyond (Condition flag) s low high lower down lies = tt

all-wider : (xs : List Spot) (low high lower higher : ℕ) → lower ≤ low → high ≤ higher → All (Lies low high) xs → All (Lies lower higher) xs
all-wider xs low high lower higher down up lie = λ k d l. wider (get_or xs k d).place (get_or xs k d).size low high lower higher down up (lie k d l)

all-beyond : (xs : List Spot) (low high lower : ℕ) → lower ≤ low → All (Lies low high) xs → All (IsBeyond lower) xs
all-beyond xs low high lower down lie = λ k d l. beyond (get_or xs k d).place (get_or xs k d).size low high lower down (lie k d l)

-- a value on the stack shares nothing with one beyond it
apart-below : (p : Place) (s : Size) (q : Place) (t : Size) (low high : ℕ) → LiesAt p s low high → IsBeyondAt q high → IsApart (record { place = p; size = s }) (record { place = q; size = t })
apart-below (Stack from) s (Stack other) t low high lies above = record { bytes = λ at one two. omega (arith, lies.1, above, one.1, two.0); registers = λ no. absurd no }
apart-below (Stack from) s (Data n) t low high lies above = record { bytes = λ at one two. two; registers = λ no. absurd no }
apart-below (Stack from) s (Address n) t low high lies above = record { bytes = λ at one two. two; registers = λ no. absurd no }
apart-below (Stack from) s (Condition flag) t low high lies above = record { bytes = λ at one two. two; registers = λ no. absurd no }
apart-below (Data n) s q t low high lies above = absurd lies
apart-below (Address n) s q t low high lies above = absurd lies
apart-below (Condition flag) s q t low high lies above = absurd lies

apart-above : (p : Place) (s : Size) (q : Place) (t : Size) (low high above top : ℕ) → high ≤ above → LiesAt p s above top → LiesAt q t low high → IsApart (record { place = p; size = s }) (record { place = q; size = t })
apart-above (Stack from) s (Stack other) t low high above top up lies lower = record { bytes = λ at one two. omega (arith, up, lies.0, lower.1, one.0, two.1); registers = λ no. absurd no }
apart-above (Stack from) s (Data n) t low high above top up lies lower = absurd lower
apart-above (Stack from) s (Address n) t low high above top up lies lower = absurd lower
apart-above (Stack from) s (Condition flag) t low high above top up lies lower = absurd lower
apart-above (Data n) s q t low high above top up lies lower = absurd lies
apart-above (Address n) s q t low high above top up lies lower = absurd lies
apart-above (Condition flag) s q t low high above top up lies lower = absurd lies

-- nor does one in a data register with one on the stack
apart-data : (n : ℕ) (s : Size) (q : Place) (t : Size) (low high : ℕ) → LiesAt q t low high → IsApart (record { place = Data n; size = s }) (record { place = q; size = t })
apart-data n s (Stack from) t low high lies = record { bytes = λ at one two. one; registers = λ _ e. data≢stack n from e }
  where
    is_data : Place → Bool
    is_data (Stack from) = false
    is_data (Data n) = true
    is_data (Address n) = false
    is_data (Condition flag) = false

    data≢stack : (n from : ℕ) → Data n ≡ Stack from → ⊥
    data≢stack n from e = true≢false (ap is_data e)
apart-data n s (Data k) t low high lies = absurd lies
apart-data n s (Address k) t low high lies = absurd lies
apart-data n s (Condition flag) t low high lies = absurd lies

-- parameters on a Pascal stack
pascal-lie : (base : ℕ) (ps : List Param) → All (Lies base (base + widths ps)) (param_spots PascalStack base ps)
pascal-lie base [] = All-nil (Lies base (base + 0))
pascal-lie base (p ∷ ps) =
    All-cons (Lies base (base + widths (p ∷ ps))) (record { place = Stack (base + widths ps); size = p.size }) (param_spots PascalStack base ps)
    (omega arith, omega (arith, bytes-width p.size))
    (all-wider (param_spots PascalStack base ps) base (base + widths ps) base (base + widths (p ∷ ps)) (omega arith) (omega arith) (pascal-lie base ps))

pascal-apart : (base : ℕ) (ps : List Param) → AllPairs IsApart (param_spots PascalStack base ps)
pascal-apart base [] = λ i j d less within. absurd (omega (arith, within))
pascal-apart base (p ∷ ps) =
    let rest = param_spots PascalStack base ps in
    AllPairs-cons IsApart (record { place = Stack (base + widths ps); size = p.size }) rest
    (λ k d l. apart-above (Stack (base + widths ps)) p.size (get_or rest k d).place (get_or rest k d).size base (base + widths ps) (base + widths ps) (base + widths ps + 4) (omega arith)
    (omega arith, omega (arith, bytes-few p.size)) (pascal-lie base ps k d l))
    (pascal-apart base ps)

-- parameters in longs
c-lie : (base : ℕ) (ps : List Param) → All (Lies base (base + 4 * length ps)) (param_spots CStack base ps)
c-lie base [] = All-nil (Lies base (base + 0))
c-lie base (p ∷ ps) =
    All-cons (Lies base (base + 4 * length (p ∷ ps))) (record { place = Stack (base + (4 - bytes_of p.size)); size = p.size }) (param_spots CStack (base + 4) ps)
    (omega arith, omega (arith, bytes-few p.size))
    (all-wider (param_spots CStack (base + 4) ps) (base + 4) (base + 4 + 4 * length ps) base (base + 4 * length (p ∷ ps)) (omega arith) (omega arith) (c-lie (base + 4) ps))

c-apart : (base : ℕ) (ps : List Param) → AllPairs IsApart (param_spots CStack base ps)
c-apart base [] = λ i j d less within. absurd (omega (arith, within))
c-apart base (p ∷ ps) =
    let rest = param_spots CStack (base + 4) ps in
    AllPairs-cons IsApart (record { place = Stack (base + (4 - bytes_of p.size)); size = p.size }) rest
    (λ k d l. apart-below (Stack (base + (4 - bytes_of p.size))) p.size (get_or rest k d).place (get_or rest k d).size base (base + 4)
    (omega arith, omega (arith, bytes-few p.size))
    (beyond (get_or rest k d).place (get_or rest k d).size (base + 4) (base + 4 + 4 * length ps) (base + 4) (omega arith) (c-lie (base + 4) ps k d l)))
    (c-apart (base + 4) ps)

-- parameters in registers
number_of : Place → ℕ
number_of (Stack from) = 0
number_of (Data n) = n
number_of (Address n) = n + 4
number_of (Condition flag) = 0

number-back : (code : ℕ) → code < 8 → number_of (place_numbered code) ≡ code
unfolding number_of
number-back code held = elim (cases_lt code 4) [
  | inl low ↦ rw (lt-ltb code 4 low) refl
  | inr on ↦ rw (le-ltb code 4 on, lt-ltb code 8 held) (omega (arith, on))
]

no-byte : (code : ℕ) (s : Size) (at : ℕ) → code < 8 → HasByte (place_numbered code) s at → ⊥
no-byte code s at held = elim (cases_lt code 4) [
  | inl low ↦ rw (lt-ltb code 4 low) (λ no. no)
  | inr on ↦ rw (le-ltb code 4 on, lt-ltb code 8 held) (λ no. no)
]

register-beyond : (code low : ℕ) → code < 8 → IsBeyondAt (place_numbered code) low
register-beyond code low held = elim (cases_lt code 4) [
  | inl few ↦ rw (lt-ltb code 4 few) tt
  | inr on ↦ rw (le-ltb code 4 on, lt-ltb code 8 held) tt
]

apart-registers : (code other : ℕ) (s t : Size) → code < 8 → other < 8 → code ≢ other → IsApart (record { place = place_numbered code; size = s }) (record { place = place_numbered other; size = t })
apart-registers code other s t held there different = record {
  bytes = λ at one two. no-byte code s at held one;
  registers = λ _ e. different (sym (number-back code held) ∙ ap number_of e ∙ number-back other there);
}

others-apart : (base code : ℕ) (s : Size) (ps : List Param) → code < 8 → AllHeld ps → list_any (λ q. q.reg == code) ps ≡ false → All (IsApart (record { place = place_numbered code; size = s })) (param_spots Registers base ps)
unfolding AllHeld
others-apart base code s [] held all none = All-nil (IsApart (record { place = place_numbered code; size = s }))
others-apart base code s (p ∷ ps) held all none =
    let first : (p.reg == code) ≡ false = none-first (p.reg == code) (list_any (λ q. q.reg == code) ps) none in
    All-cons (IsApart (record { place = place_numbered code; size = s })) (record { place = place_numbered p.reg; size = p.size }) (param_spots Registers base ps)
    (apart-registers code p.reg s p.size held (all 0 p (omega arith)) (λ e. eqb-false p.reg code first (sym e)))
    (others-apart base code s ps held (rest-held p ps all) (none-later (p.reg == code) (list_any (λ q. q.reg == code) ps) none))

registers-apart : (base : ℕ) (ps : List Param) → AllHeld ps → is_twice ps ≡ false → AllPairs IsApart (param_spots Registers base ps)
unfolding AllHeld
registers-apart base [] all once = λ i j d less within. absurd (omega (arith, within))
registers-apart base (p ∷ ps) all once =
    AllPairs-cons IsApart (record { place = place_numbered p.reg; size = p.size }) (param_spots Registers base ps)
    (others-apart base p.reg p.size ps (all 0 p (omega arith)) (rest-held p ps all) (none-first (list_any (λ q. q.reg == p.reg) ps) (is_twice ps) once))
    (registers-apart base ps (rest-held p ps all) (none-later (list_any (λ q. q.reg == p.reg) ps) (is_twice ps) once))

registers-beyond : (base low : ℕ) (ps : List Param) → AllHeld ps → All (IsBeyond low) (param_spots Registers base ps)
unfolding AllHeld
registers-beyond base low [] all = All-nil (IsBeyond low)
registers-beyond base low (p ∷ ps) all =
    All-cons (IsBeyond low) (record { place = place_numbered p.reg; size = p.size }) (param_spots Registers base ps)
    (register-beyond p.reg low (all 0 p (omega arith))) (registers-beyond base low ps (rest-held p ps all))

-- the parameters of a Pascal call and the room for its result
abbrev room_at : ℕ → List Param → Size → Spot
room_at base ps result = record { place = Stack (base + widths ps); size = result }

abbrev pascal_rest : ℕ → List Param → Size → List Spot
pascal_rest base ps result = param_spots PascalStack base ps ++ room_at base ps result ∷ []

rest-lie : (base : ℕ) (ps : List Param) (result : Size) → All (Lies base (base + widths ps + 4)) (pascal_rest base ps result)
rest-lie base ps result =
    let top = base + widths ps + 4 in
    All-append (Lies base top) (param_spots PascalStack base ps) (room_at base ps result ∷ [])
    (all-wider (param_spots PascalStack base ps) base (base + widths ps) base top (omega arith) (omega arith) (pascal-lie base ps))
    (All-cons (Lies base top) (room_at base ps result) [] (omega arith, omega (arith, bytes-few result)) (All-nil (Lies base top)))

-- one more behind others
apart-last : (xs : List Spot) (x : Spot) → AllPairs IsApart xs → All (λ y. IsApart y x) xs → AllPairs IsApart (xs ++ x ∷ [])
apart-last xs x pairs last = all_pairs_push IsApart xs x pairs last

rest-apart : (base : ℕ) (ps : List Param) (result : Size) → AllPairs IsApart (pascal_rest base ps result)
rest-apart base ps result =
    let given = param_spots PascalStack base ps in
    apart-last given (room_at base ps result) (pascal-apart base ps)
    (λ k d l. apart-below (get_or given k d).place (get_or given k d).size (Stack (base + widths ps)) result base (base + widths ps) (pascal-lie base ps k d l) (omega arith))

-- with the return address in front of values beyond it
abbrev gate_spot : Spot
gate_spot = record { place = Stack 0; size = Four }

behind-gate : (xs : List Spot) → All (IsBeyond 4) xs → AllPairs IsApart xs → AllPairs IsApart (gate_spot ∷ xs)
behind-gate xs above pairs =
    AllPairs-cons IsApart gate_spot xs (λ k d l. apart-below (Stack 0) Four (get_or xs k d).place (get_or xs k d).size 0 4 (omega arith, omega arith) (above k d l)) pairs

-- and a selector in a data register, or on the stack
behind-data : (n : ℕ) (s : Size) (xs : List Spot) (high : ℕ) → All (Lies 4 high) xs → AllPairs IsApart xs → AllPairs IsApart (gate_spot ∷ (record { place = Data n; size = s } ∷ xs))
behind-data n s xs high lie pairs =
    let selector : Spot = record { place = Data n; size = s } in
    behind-gate (selector ∷ xs) (All-cons (IsBeyond 4) selector xs tt (all-beyond xs 4 high 4 (omega arith) lie))
    (AllPairs-cons IsApart selector xs (λ k d l. apart-data n s (get_or xs k d).place (get_or xs k d).size 4 high (lie k d l)) pairs)

behind-stack : (s : Size) (xs : List Spot) (high : ℕ) → All (Lies (4 + width s) high) xs → AllPairs IsApart xs → AllPairs IsApart (gate_spot ∷ (record { place = Stack 4; size = s } ∷ xs))
behind-stack s xs high lie pairs =
    let selector : Spot = record { place = Stack 4; size = s } in
    let over = all-beyond xs (4 + width s) high (4 + width s) (omega arith) lie in
    behind-gate (selector ∷ xs) (All-cons (IsBeyond 4) selector xs (omega arith) (all-beyond xs (4 + width s) high 4 (omega arith) lie))
    (AllPairs-cons IsApart selector xs (λ k d l. apart-below (Stack 4) s (get_or xs k d).place (get_or xs k d).size 4 (4 + width s) (omega arith, omega (arith, bytes-width s)) (over k d l)) pairs)

-- with nothing behind
none-behind : (P : List Spot → Type 0) (xs : List Spot) → P xs → P (xs ++ [])
none-behind P xs h = subst P (sym (append-nil xs)) h

pascal-alone : (ps : List Param) (result : Size) → AllPairs IsApart (gate_spot ∷ pascal_rest 4 ps result)
pascal-alone ps result =
    behind-gate (pascal_rest 4 ps result) (all-beyond (pascal_rest 4 ps result) 4 (4 + widths ps + 4) 4 (omega arith) (rest-lie 4 ps result)) (rest-apart 4 ps result)

c-alone : (ps : List Param) → AllPairs IsApart (gate_spot ∷ (param_spots CStack 4 ps ++ []))
c-alone ps =
    none-behind (λ xs. AllPairs IsApart (gate_spot ∷ xs)) (param_spots CStack 4 ps)
    (behind-gate (param_spots CStack 4 ps) (all-beyond (param_spots CStack 4 ps) 4 (4 + 4 * length ps) 4 (omega arith) (c-lie 4 ps)) (c-apart 4 ps))

-- no convention but of Pascal passes its selector on the stack
pub only-pascal : (conv : Conv) (s : Size) → (route_of conv ≢ PascalStack → selector_width conv s ≡ 0)
only-pascal Pascal s other = refl
only-pascal C s other = refl
only-pascal Register s other = refl
only-pascal D0Pascal s other = refl
only-pascal D0C s other = refl
only-pascal D1Pascal s other = refl
only-pascal StackPascal s other = absurd (other refl)

apart-of : (conv : Conv) (result : Size) (place : ℕ) (selector : Size) (ps : List Param) (passed : Bool)
    → let sig : Signature = record { conv = conv; result = result; place = place; selector = selector; params = ps } in
    KeepsRules sig → (passed ≡ true → is_dispatched conv ≡ true) → AllPairs IsApart (call_spots sig passed)
unfolding AllHeld
apart-of Pascal result place selector ps true rules may = absurd (true≢false (sym (may refl)))
apart-of Pascal result place selector ps false rules may = pascal-alone ps result
apart-of C result place selector ps true rules may = absurd (true≢false (sym (may refl)))
apart-of C result place selector ps false rules may = c-alone ps
apart-of Register result place selector ps true rules may = absurd (true≢false (sym (may refl)))
apart-of Register result place selector ps false rules may =
    let all : AllHeld ps = λ k d within. (rules.each k d within).held in
    none-behind (λ xs. AllPairs IsApart (gate_spot ∷ xs)) (param_spots Registers 4 ps)
    (behind-gate (param_spots Registers 4 ps) (registers-beyond 4 4 ps all) (registers-apart 4 ps all rules.rest.2))
apart-of D0Pascal result place selector ps true rules may = behind-data 0 selector (pascal_rest 4 ps result) (4 + widths ps + 4) (rest-lie 4 ps result) (rest-apart 4 ps result)
apart-of D0Pascal result place selector ps false rules may = pascal-alone ps result
apart-of D0C result place selector ps true rules may =
    none-behind (λ xs. AllPairs IsApart (gate_spot ∷ (record { place = Data 0; size = selector } ∷ xs))) (param_spots CStack 4 ps)
    (behind-data 0 selector (param_spots CStack 4 ps) (4 + 4 * length ps) (c-lie 4 ps) (c-apart 4 ps))
apart-of D0C result place selector ps false rules may = c-alone ps
apart-of D1Pascal result place selector ps true rules may = behind-data 1 selector (pascal_rest 4 ps result) (4 + widths ps + 4) (rest-lie 4 ps result) (rest-apart 4 ps result)
apart-of D1Pascal result place selector ps false rules may = pascal-alone ps result
apart-of StackPascal result place selector ps true rules may =
    behind-stack selector (pascal_rest (4 + width selector) ps result) (4 + width selector + widths ps + 4) (rest-lie (4 + width selector) ps result) (rest-apart (4 + width selector) ps result)
apart-of StackPascal result place selector ps false rules may = pascal-alone ps result

pub places-apart : PlacesAreApart
places-apart sig passed rules may = apart-of sig.conv sig.result sig.place sig.selector sig.params passed rules may
