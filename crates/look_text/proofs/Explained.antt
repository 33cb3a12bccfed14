-- What is wrong with a word explains why the words are refused.
use Rattle.std.proofs.Common.{◌≡◌, ℕ, List, Result, Ok, Err, refl, subst, sym}
use Rattle.std.specs.Prelude.{IfOk}
use Rattle.job_words.specs.Words.{bad_at, command_of}
use Rattle.look_text.specs.Whys.{Explains, ExplainsWord, IsAt, at_place}
use Rattle.look_text.specs.declared.why.Why.{Why}
use Rattle.look_text.specs.declared.why.Why.TheVariants.{Taken, Empty, Command, Missing, Keyless, Key, Value, Again}

lifted : (words : List (List ℕ)) (place : ℕ) (why : Why) → command_of words ≡ Err (bad_at place) → ExplainsWord (at_place words 0) (at_place words place) place why → Explains words why
lifted words place Taken refused is = absurd is
lifted words place Empty refused is = absurd is
lifted words place Command refused is = absurd is
lifted words place Missing refused is = absurd is
lifted words place (Keyless at) refused is =
    subst (λ p. IsAt words p (Keyless p)) (sym is.0) (record { refused = refused; reason = (refl, is.1) })
lifted words place (Key at label) refused is =
    subst (λ p. IsAt words p (Key p label)) (sym is.0) (record { refused = refused; reason = (refl, is.1, is.2) })
lifted words place (Value at label) refused is =
    subst (λ p. IsAt words p (Value p label)) (sym is.0) (record { refused = refused; reason = (refl, is.1, is.2, is.3) })
lifted words place (Again at label) refused is =
    subst (λ p. IsAt words p (Again p label)) (sym is.0) (record { refused = refused; reason = (refl, is.1, is.2) })

pub explained : {E : Type 0} (result : Result Why E) (words : List (List ℕ)) (command word : List ℕ) (place : ℕ)
    → IfOk result (ExplainsWord command word place) → command_of words ≡ Err (bad_at place)
    → command ≡ at_place words 0 → word ≡ at_place words place → IfOk result (Explains words)
explained (Ok why) words command word place is refused first here =
    lifted words place why refused (subst (λ w. ExplainsWord (at_place words 0) w place why) here (subst (λ c. ExplainsWord c word place why) first is))
explained (Err e) words command word place is refused first here = tt
