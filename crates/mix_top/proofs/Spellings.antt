-- A text is a command exactly where it is what is written of one, and no such text has a line feed.
use Rattle.std.proofs.Common.{◌≡◌, ℕ, zero, suc, ◌+◌, ◌/◌, ◌%◌, ◌^◌, ◌<◌, ◌==◌, ◌⊎◌, inl, inr, Bool, true, false, List, [], ◌∷◌, ◌++◌, length, drop, Option, Some, None, if◌then◌else◌, decimal, arith, ap, sym, subst, ◌∙◌, refl}
use Rattle.std.specs.Prelude.{codes}
use Rattle.std.specs.Fmt.{digit_glyph}
use Rattle.std.specs.Option.{option_map}
use Rattle.std.specs.Str.{bytes_eq}
use Rattle.std.proofs.lemmas.Bool.Decides.{nat_tests, Decides-eqb}
use Rattle.std.proofs.lemmas.Fmt.{decimal_by_steps}
use Rattle.std.proofs.lemmas.Slice.Eq.{bytes_eq-Decides, starts_is}
use Rattle.mix_bits.specs.Numbers.{decimal_number, hexadecimal_number}
use Rattle.mix_bits.specs.Text.{hexadecimal}
use Rattle.mix_bits.proofs.ReadDecimals.{reads_decimals}
use Rattle.mix_bits.proofs.ReadHexadecimals.{reads_hexadecimals}
use Rattle.mix_top.specs.laws.Commands.{IsCount, IsProper, text_of}
use Rattle.mix_top.specs.Commands.{begins, command_of, count_in, counted}
use Rattle.mix_top.specs.declared.command.ScriptCommand.{ScriptCommand}
use Rattle.mix_top.specs.declared.command.ScriptCommand.TheVariants.{Step, Over, Go, Back, Break, Clear, Where}

-- ---- a number of steps, and an address

some-if : (b : Bool) (m n : ℕ) → b ≡ (m == 0) → (if b then None else Some m) ≡ Some n → (Some m ≡ Some n) × (0 < n)
some-if true m n test is = cc
some-if false m n test is = let same : m ≡ n = cc in (is, subst (λ k. 0 < k) same (grind (arith, nat_tests, test)))

counted-some : (o : Option ℕ) (n : ℕ) → counted o ≡ Some n → (o ≡ Some n) × (0 < n)
counted-some None n is = cc
counted-some (Some m) n is = some-if (m == 0) m n refl is

more-if : (b : Bool) (n : ℕ) → b ≡ (n == 0) → 0 < n → (if b then None else Some n) ≡ Some n
more-if true n test some = absurd (grind (arith, nat_tests, test))
more-if false n test some = refl

counted-more : (n : ℕ) → 0 < n → counted (Some n) ≡ Some n
counted-more n some = more-if (n == 0) n refl some

count-spelled : (text : List ℕ) (n : ℕ) → count_in text ≡ Some n → IsCount n × (decimal n ≡ text)
count-spelled text n is =
    let own = counted-some (decimal_number text) n is in
    let both = (reads_decimals text n).0 own.0 in
    ((own.1, both.0), both.1)

count-read : (n : ℕ) → IsCount n → count_in (decimal n) ≡ Some n
count-read n proper = ap counted ((reads_decimals (decimal n) n).1 (proper.1, refl)) ∙ counted-more n proper.0

address-spelled : (text : List ℕ) (a : ℕ) → hexadecimal_number 8 text ≡ Some a → (a < 2 ^ 32) × (hexadecimal 8 a ≡ text)
address-spelled text a is = let both = (reads_hexadecimals 8 text a).0 is in let small : a < 16 ^ 8 = both.0 in (omega (arith, small), both.1)

address-read : (a : ℕ) → a < 2 ^ 32 → hexadecimal_number 8 (hexadecimal 8 a) ≡ Some a
address-read a small = (reads_hexadecimals 8 (hexadecimal 8 a) a).1 (omega (arith, small), refl)

-- ---- which text is a command

pub record Spelled (text : List ℕ) (c : ScriptCommand) : Type 0 where
  pub proper : IsProper c
  pub is : text_of c ≡ text

mapped : (f : ℕ → ScriptCommand) (o : Option ℕ) (c : ScriptCommand) → option_map f o ≡ Some c → (n : ℕ) × (o ≡ Some n) × (f n ≡ c)
mapped f None c is = cc
mapped f (Some n) c is = (n, refl, cc)

chosen : (b : Bool) (x y : Option ScriptCommand) (c : ScriptCommand) → (if b then x else y) ≡ Some c → ((b ≡ true) × (x ≡ Some c)) ⊎ (y ≡ Some c)
chosen true x y c is = inl (refl, is)
chosen false x y c is = inr is

behind : (word text : List ℕ) → begins word text ≡ true → text ≡ word ++ drop (length word) text
behind word text is = (starts_is Decides-eqb text word (begins word text) refl).0 is

spelled-count : (word text : List ℕ) (f : ℕ → ScriptCommand) (c : ScriptCommand) → ((n : ℕ) → IsCount n → IsProper (f n)) → ((n : ℕ) → text_of (f n) ≡ word ++ decimal n)
    → begins word text ≡ true → option_map f (count_in (drop (length word) text)) ≡ Some c → Spelled text c
spelled-count word text f c proper written is made =
    let own = mapped f (count_in (drop (length word) text)) c made in
    let both = count-spelled (drop (length word) text) own.0 own.1 in
    record {
      proper = subst IsProper own.2 (proper own.0 both.0);
      is = ap text_of (sym own.2) ∙ (written own.0 ∙ (ap (λ xs. word ++ xs) both.1 ∙ sym (behind word text is)));
    }

spelled-address : (word text : List ℕ) (f : ℕ → ScriptCommand) (c : ScriptCommand) → ((a : ℕ) → a < 2 ^ 32 → IsProper (f a)) → ((a : ℕ) → text_of (f a) ≡ word ++ hexadecimal 8 a)
    → begins word text ≡ true → option_map f (hexadecimal_number 8 (drop (length word) text)) ≡ Some c → Spelled text c
spelled-address word text f c proper written is made =
    let own = mapped f (hexadecimal_number 8 (drop (length word) text)) c made in
    let both = address-spelled (drop (length word) text) own.0 own.1 in
    record {
      proper = subst IsProper own.2 (proper own.0 both.0);
      is = ap text_of (sym own.2) ∙ (written own.0 ∙ (ap (λ xs. word ++ xs) both.1 ∙ sym (behind word text is)));
    }

step-text : (n : ℕ) → text_of (Step n) ≡ codes "step " ++ decimal n
unfolding text_of
step-text n = refl

over-text : (n : ℕ) → text_of (Over n) ≡ codes "over " ++ decimal n
unfolding text_of
over-text n = refl

go-text : (n : ℕ) → text_of (Go n) ≡ codes "go " ++ decimal n
unfolding text_of
go-text n = refl

back-text : (n : ℕ) → text_of (Back n) ≡ codes "back " ++ decimal n
unfolding text_of
back-text n = refl

break-text : (a : ℕ) → text_of (Break a) ≡ codes "break " ++ hexadecimal 8 a
unfolding text_of
break-text a = refl

clear-text : (a : ℕ) → text_of (Clear a) ≡ codes "clear " ++ hexadecimal 8 a
unfolding text_of
clear-text a = refl

where-text : text_of Where ≡ codes "where"
unfolding text_of
where-text = refl

spelled-where : (text : List ℕ) (c : ScriptCommand) → bytes_eq text (codes "where") ≡ true → Some Where ≡ Some c → Spelled text c
spelled-where text c is made =
    let same : Where ≡ c = cc in
    record { proper = subst IsProper same tt; is = ap text_of (sym same) ∙ (where-text ∙ sym ((bytes_eq-Decides text (codes "where")).0 is)) }

pub command-spelled : (text : List ℕ) (c : ScriptCommand) → command_of text ≡ Some c → Spelled text c
unfolding command_of
command-spelled text c is =
    elim (chosen (bytes_eq text (codes "where")) (Some Where) _ c is) [
      | inl own ↦ spelled-where text c own.0 own.1
      | inr is ↦ elim (chosen (begins (codes "step ") text) _ _ c is) [
        | inl own ↦ spelled-count (codes "step ") text Step c (λ n p. p) step-text own.0 own.1
        | inr is ↦ elim (chosen (begins (codes "over ") text) _ _ c is) [
          | inl own ↦ spelled-count (codes "over ") text Over c (λ n p. p) over-text own.0 own.1
          | inr is ↦ elim (chosen (begins (codes "go ") text) _ _ c is) [
            | inl own ↦ spelled-count (codes "go ") text Go c (λ n p. p) go-text own.0 own.1
            | inr is ↦ elim (chosen (begins (codes "back ") text) _ _ c is) [
              | inl own ↦ spelled-count (codes "back ") text Back c (λ n p. p) back-text own.0 own.1
              | inr is ↦ elim (chosen (begins (codes "break ") text) _ _ c is) [
                | inl own ↦ spelled-address (codes "break ") text Break c (λ a p. p) break-text own.0 own.1
                | inr is ↦ elim (chosen (begins (codes "clear ") text) _ None c is) [
                  | inl own ↦ spelled-address (codes "clear ") text Clear c (λ a p. p) clear-text own.0 own.1
                  | inr none ↦ let no : None ≡ Some c = none in cc
                ]
              ]
            ]
          ]
        ]
      ]
    ]

pub command-read : (c : ScriptCommand) → IsProper c → command_of (text_of c) ≡ Some c
unfolding command_of text_of
command-read (Step n) proper = ap (option_map Step) (count-read n proper)
command-read (Over n) proper = ap (option_map Over) (count-read n proper)
command-read (Go n) proper = ap (option_map Go) (count-read n proper)
command-read (Back n) proper = ap (option_map Back) (count-read n proper)
command-read (Break a) proper = ap (option_map Break) (address-read a proper)
command-read (Clear a) proper = ap (option_map Clear) (address-read a proper)
command-read Where proper = refl

-- ---- no text of a command has a line feed

abbrev pub HasNoFeed : List ℕ → Type 0
HasNoFeed [] = Unit {0}
HasNoFeed (byte ∷ text) = ((byte == 10) ≡ false) × HasNoFeed text

no-feed_append : (xs ys : List ℕ) → HasNoFeed xs → HasNoFeed ys → HasNoFeed (xs ++ ys)
no-feed_append [] ys front back = back
no-feed_append (x ∷ xs) ys front back = (front.0, no-feed_append xs ys front.1 back)

digit-no_feed : (d : ℕ) → ((48 + d) == 10) ≡ false
digit-no_feed d = grind (arith, nat_tests)

decimal-no_feed : (n : ℕ) → n < 2 ^ 64 → HasNoFeed (decimal n)
decimal-no_feed n small =
    decimal_by_steps (λ m ds. HasNoFeed ds) (λ m one. (digit-no_feed m, tt))
    (λ m ds more front. no-feed_append ds ((48 + m % 10) ∷ []) front (digit-no_feed (m % 10), tt)) n small

glyph-no_feed : (d : ℕ) → (digit_glyph true d == 10) ≡ false
glyph-no_feed d = grind (arith, nat_tests)

hexadecimal-no_feed : (k v : ℕ) → HasNoFeed (hexadecimal k v)
hexadecimal-no_feed zero v = tt
hexadecimal-no_feed (suc k) v = (glyph-no_feed (v / 16 ^ k % 16), hexadecimal-no_feed k v)

count-no_feed : (word : List ℕ) (n : ℕ) → HasNoFeed word → IsCount n → HasNoFeed (word ++ decimal n)
count-no_feed word n first proper = let small : n < 2 ^ 32 = proper.1 in no-feed_append word (decimal n) first (decimal-no_feed n (omega (arith, small)))

address-no_feed : (word : List ℕ) (a : ℕ) → HasNoFeed word → HasNoFeed (word ++ hexadecimal 8 a)
address-no_feed word a first = no-feed_append word (hexadecimal 8 a) first (hexadecimal-no_feed 8 a)

pub text-no_feed : (c : ScriptCommand) → IsProper c → HasNoFeed (text_of c)
unfolding text_of
text-no_feed (Step n) proper = count-no_feed (codes "step ") n (refl, (refl, (refl, (refl, (refl, tt))))) proper
text-no_feed (Over n) proper = count-no_feed (codes "over ") n (refl, (refl, (refl, (refl, (refl, tt))))) proper
text-no_feed (Go n) proper = count-no_feed (codes "go ") n (refl, (refl, (refl, tt))) proper
text-no_feed (Back n) proper = count-no_feed (codes "back ") n (refl, (refl, (refl, (refl, (refl, tt))))) proper
text-no_feed (Break a) proper = address-no_feed (codes "break ") a (refl, (refl, (refl, (refl, (refl, (refl, tt))))))
text-no_feed (Clear a) proper = address-no_feed (codes "clear ") a (refl, (refl, (refl, (refl, (refl, (refl, tt))))))
text-no_feed Where proper = (refl, (refl, (refl, (refl, (refl, tt)))))
