-- The command that a text is: that of the first word that it begins with.
use Rattle.std.proofs.Common.{◌≡◌, ℕ, ◌-◌, Bool, true, false, List, length, take, drop, Option, Some, None, MatchOption, if◌then◌else◌, arith, refl, sym, ap, ◌∙◌, take_all, length-drop}
use Rattle.std.specs.Option.{IsSomeAnd, option_map}
use Rattle.std.specs.Str.{bytes_eq}
use Rattle.mix_bits.specs.Numbers.{hexadecimal_number}
use Rattle.mix_top.specs.Commands.{command_of, count_in}
use Rattle.mix_top.specs.declared.command.ScriptCommand.{ScriptCommand}
use Rattle.mix_top.specs.declared.command.ScriptCommand.TheVariants.{Step, Over, Go, Back, Break, Clear}
use Rattle.mix_top.proofs.command.read_command.Goals as goal

-- a test that holds, and one that does not
here : (b : Bool) (m x y : Option ScriptCommand) → b ≡ true → m ≡ x → m ≡ (if b then x else y)
here true m x y is same = same
here false m x y is same = cc

past : (b : Bool) (m x y : Option ScriptCommand) → b ≡ false → m ≡ y → m ≡ (if b then x else y)
past true m x y is same = cc
past false m x y is same = same

-- what a number that may be there makes
mapped : (make : ℕ → ScriptCommand) (r : Option ℕ) (m : Option ScriptCommand) → MatchOption r (m ≡ None) (λ x. IsSomeAnd m (λ y. y ≡ make x)) → m ≡ option_map make r
mapped make None m is = is
mapped make (Some n) None is = absurd is
mapped make (Some n) (Some y) is = ap Some is

-- what stands behind a word, as a number
behind : (n : ℕ) (text : List ℕ) → take (length text - n) (drop n text) ≡ drop n text
behind n text = take_all (length text - n) (drop n text) (omega (arith, length-drop n text))

counts : (make : ℕ → ScriptCommand) (n : ℕ) (text : List ℕ) (m : Option ScriptCommand) (r : Option ℕ) → m ≡ option_map make r → r ≡ count_in (take (length text - n) (drop n text)) → m ≡ option_map make (count_in (drop n text))
counts make n text m r made read = made ∙ ap (option_map make) (read ∙ ap count_in (behind n text))

places : (make : ℕ → ScriptCommand) (n : ℕ) (text : List ℕ) (m : Option ScriptCommand) (r : Option ℕ) → m ≡ option_map make r → r ≡ hexadecimal_number 8 (take (length text - n) (drop n text)) → m ≡ option_map make (hexadecimal_number 8 (drop n text))
places make n text m r made read = made ∙ ap (option_map make) (read ∙ ap (hexadecimal_number 8) (behind n text))

pub returns-then-eq : goal.returns-then-eq
unfolding command_of
returns-then-eq c = here _ _ _ _ (sym (c.eq.ensures ∙ ap (bytes_eq c.args.text.now) c.as_slice.ensures) ∙ c.if-eq.true) refl

pub returns-then-starts_with : goal.returns-then-starts_with
unfolding command_of
returns-then-starts_with c =
    let made = mapped Step c.read_count.result c.map.result c.map.ensures.cases in
    past _ _ _ _ (sym (c.eq.ensures ∙ ap (bytes_eq c.args.text.now) c.as_slice.ensures) ∙ c.if-eq.false)
    (here _ _ _ _ (sym c.starts_with.ensures.value ∙ c.if-starts_with.true) (counts Step 5 c.args.text.now c.map.result c.read_count.result made c.read_count.ensures))

pub returns-then-starts_with-2 : goal.returns-then-starts_with-2
unfolding command_of
returns-then-starts_with-2 c =
    let made = mapped Over c.read_count-then-starts_with-2.result c.map-then-starts_with-2.result c.map-then-starts_with-2.ensures.cases in
    past _ _ _ _ (sym (c.eq.ensures ∙ ap (bytes_eq c.args.text.now) c.as_slice.ensures) ∙ c.if-eq.false)
    (past _ _ _ _ (sym c.starts_with.ensures.value ∙ c.if-starts_with.false)
    (here _ _ _ _ (sym c.starts_with-else-starts_with.ensures.value ∙ c.if-starts_with-2.true) (counts Over 5 c.args.text.now c.map-then-starts_with-2.result c.read_count-then-starts_with-2.result made c.read_count-then-starts_with-2.ensures)))

pub returns-then-starts_with-3 : goal.returns-then-starts_with-3
unfolding command_of
returns-then-starts_with-3 c =
    let made = mapped Go c.read_count-then-starts_with-3.result c.map-then-starts_with-3.result c.map-then-starts_with-3.ensures.cases in
    past _ _ _ _ (sym (c.eq.ensures ∙ ap (bytes_eq c.args.text.now) c.as_slice.ensures) ∙ c.if-eq.false)
    (past _ _ _ _ (sym c.starts_with.ensures.value ∙ c.if-starts_with.false)
    (past _ _ _ _ (sym c.starts_with-else-starts_with.ensures.value ∙ c.if-starts_with-2.false)
    (here _ _ _ _ (sym c.starts_with-else-starts_with-2.ensures.value ∙ c.if-starts_with-3.true) (counts Go 3 c.args.text.now c.map-then-starts_with-3.result c.read_count-then-starts_with-3.result made c.read_count-then-starts_with-3.ensures))))

pub returns-then-starts_with-4 : goal.returns-then-starts_with-4
unfolding command_of
returns-then-starts_with-4 c =
    let made = mapped Back c.read_count-then-starts_with-4.result c.map-then-starts_with-4.result c.map-then-starts_with-4.ensures.cases in
    past _ _ _ _ (sym (c.eq.ensures ∙ ap (bytes_eq c.args.text.now) c.as_slice.ensures) ∙ c.if-eq.false)
    (past _ _ _ _ (sym c.starts_with.ensures.value ∙ c.if-starts_with.false)
    (past _ _ _ _ (sym c.starts_with-else-starts_with.ensures.value ∙ c.if-starts_with-2.false)
    (past _ _ _ _ (sym c.starts_with-else-starts_with-2.ensures.value ∙ c.if-starts_with-3.false)
    (here _ _ _ _ (sym c.starts_with-else-starts_with-3.ensures.value ∙ c.if-starts_with-4.true) (counts Back 5 c.args.text.now c.map-then-starts_with-4.result c.read_count-then-starts_with-4.result made c.read_count-then-starts_with-4.ensures)))))

pub returns-then-starts_with-5 : goal.returns-then-starts_with-5
unfolding command_of
returns-then-starts_with-5 c =
    let made = mapped Break c.read_hexadecimal.result c.map-then-starts_with-5.result c.map-then-starts_with-5.ensures.cases in
    past _ _ _ _ (sym (c.eq.ensures ∙ ap (bytes_eq c.args.text.now) c.as_slice.ensures) ∙ c.if-eq.false)
    (past _ _ _ _ (sym c.starts_with.ensures.value ∙ c.if-starts_with.false)
    (past _ _ _ _ (sym c.starts_with-else-starts_with.ensures.value ∙ c.if-starts_with-2.false)
    (past _ _ _ _ (sym c.starts_with-else-starts_with-2.ensures.value ∙ c.if-starts_with-3.false)
    (past _ _ _ _ (sym c.starts_with-else-starts_with-3.ensures.value ∙ c.if-starts_with-4.false)
    (here _ _ _ _ (sym c.starts_with-else-starts_with-4.ensures.value ∙ c.if-starts_with-5.true) (places Break 6 c.args.text.now c.map-then-starts_with-5.result c.read_hexadecimal.result made c.read_hexadecimal.ensures))))))

pub returns-then-starts_with-6 : goal.returns-then-starts_with-6
unfolding command_of
returns-then-starts_with-6 c =
    let made = mapped Clear c.read_hexadecimal-then-starts_with-6.result c.map-then-starts_with-6.result c.map-then-starts_with-6.ensures.cases in
    past _ _ _ _ (sym (c.eq.ensures ∙ ap (bytes_eq c.args.text.now) c.as_slice.ensures) ∙ c.if-eq.false)
    (past _ _ _ _ (sym c.starts_with.ensures.value ∙ c.if-starts_with.false)
    (past _ _ _ _ (sym c.starts_with-else-starts_with.ensures.value ∙ c.if-starts_with-2.false)
    (past _ _ _ _ (sym c.starts_with-else-starts_with-2.ensures.value ∙ c.if-starts_with-3.false)
    (past _ _ _ _ (sym c.starts_with-else-starts_with-3.ensures.value ∙ c.if-starts_with-4.false)
    (past _ _ _ _ (sym c.starts_with-else-starts_with-4.ensures.value ∙ c.if-starts_with-5.false)
    (here _ _ _ _ (sym c.starts_with-else-starts_with-5.ensures.value ∙ c.if-starts_with-6.true) (places Clear 6 c.args.text.now c.map-then-starts_with-6.result c.read_hexadecimal-then-starts_with-6.result made c.read_hexadecimal-then-starts_with-6.ensures)))))))

pub returns-else-starts_with-6 : goal.returns-else-starts_with-6
unfolding command_of
returns-else-starts_with-6 c =
    past _ _ _ _ (sym (c.eq.ensures ∙ ap (bytes_eq c.args.text.now) c.as_slice.ensures) ∙ c.if-eq.false)
    (past _ _ _ _ (sym c.starts_with.ensures.value ∙ c.if-starts_with.false)
    (past _ _ _ _ (sym c.starts_with-else-starts_with.ensures.value ∙ c.if-starts_with-2.false)
    (past _ _ _ _ (sym c.starts_with-else-starts_with-2.ensures.value ∙ c.if-starts_with-3.false)
    (past _ _ _ _ (sym c.starts_with-else-starts_with-3.ensures.value ∙ c.if-starts_with-4.false)
    (past _ _ _ _ (sym c.starts_with-else-starts_with-4.ensures.value ∙ c.if-starts_with-5.false)
    (past _ _ _ _ (sym c.starts_with-else-starts_with-5.ensures.value ∙ c.if-starts_with-6.false) refl))))))
