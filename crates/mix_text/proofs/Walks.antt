-- The lines of a text, one after the other.
use Rattle.std.proofs.Common.{◌≡◌, ℕ, ◌+◌, ◌^◌, ◌<◌, ◌≤◌, List, [], ◌∷◌, ◌++◌, length, Result, Ok, Err, OnErr, OnOk, arith, sym, ap, subst, ◌∙◌, refl, append_assoc, append-nil}
use Rattle.mix_bits.specs.Addresses.{onward}
use Rattle.mix_bits.specs.declared.isa.Isa.{Isa}
use Rattle.mix_io.specs.Streams.{Output, Grows, Breaks, StopsWithin}
use Rattle.mix_io.proofs.Streams.{grows-none, grows-more, breaks-after}
use Rattle.mix_text.specs.Lines.{lines_of}
use Rattle.mix_text.specs.Assembling.{Assembles, IsAssembled, IsGiven, IsWithRest, before, refused_at}
use Rattle.mix_text.specs.AssemblingClauses.{HasBytes}
use Rattle.mix_text.specs.inner.Parts.{Adds, GivesBytes, behind_line, first_line}
use Rattle.mix_text.specs.AssemblingClauses.{OfBytes}
use Rattle.mix_text.specs.declared.refused.Reason.{Reason}
use Rattle.mix_text.specs.declared.refused.Refused.{Refused}
use Rattle.mix_text.proofs.Once.{one_given}
use Rattle.mix_text.proofs.Splits.{behind-less, lines-split}

-- what is left of a text gives this
abbrev pub Left : Isa → ℕ → ℕ → List ℕ → Result (List ℕ) Refused → Type 0
Left set number at text all = Assembles set number at (lines_of text) all

before-more : (xs ys : List ℕ) (r : Result (List ℕ) Refused) → before xs (before ys r) ≡ before (xs ++ ys) r
before-more xs ys (Ok zs) = ap Ok (sym (append_assoc xs ys zs))
before-more xs ys (Err refused) = refl

-- a line was taken from the text that is left
pub record Takes (rest line behind : List ℕ) : Type 0 where
  pub some : 0 < length rest
  pub first : line ≡ first_line rest
  pub others : behind ≡ behind_line rest

lines-taken : (rest line behind : List ℕ) → Takes rest line behind → lines_of rest ≡ line ∷ lines_of behind
lines-taken rest line behind takes =
    lines-split rest takes.some ∙ ap (λ l. l ∷ lines_of (behind_line rest)) (sym takes.first) ∙ ap (λ t. line ∷ lines_of t) (sym takes.others)

less-left : (rest line behind : List ℕ) → Takes rest line behind → length behind < length rest
less-left rest line behind takes = subst (λ t. length t < length rest) (sym takes.others) (behind-less rest takes.some)

-- the lines before one were not refused
pub record Walked (set : Isa) (at : ℕ) (text : List ℕ) (number next : ℕ) (rest : List ℕ) : Type 0 where
  pub done : List ℕ
  pub leads : (all : Result (List ℕ) Refused) → Left set number next rest all → IsAssembled set at text (before done all)
  pub fewer : number + length rest ≤ 1 + length text

pub walked-on : (set : Isa) (at : ℕ) (text : List ℕ) (number next after : ℕ) (rest line behind bytes : List ℕ) → Walked set at text number next rest
    → Takes rest line behind → IsGiven set line next (Ok bytes) → after ≡ onward next (length bytes) → Walked set at text (number + 1) after behind
walked-on set at text number next after rest line behind bytes walked takes gives same =
    let less : length behind < length rest = less-left rest line behind takes in
    record {
      done = walked.done ++ bytes;
      leads = λ all is.
          subst (IsAssembled set at text) (before-more walked.done bytes all)
          (walked.leads (before bytes all)
          (subst (λ lines. Assembles set number next lines (before bytes all)) (sym (lines-taken rest line behind takes))
          (Ok bytes, gives, (all, subst (λ a. Left set (number + 1) a behind all) same is, refl))));
      fewer = omega (arith, less, walked.fewer);
    }

pub walked-bad : (set : Isa) (at : ℕ) (text : List ℕ) (number next : ℕ) (rest line behind : List ℕ) (reason : Reason) → Walked set at text number next rest
    → Takes rest line behind → IsGiven set line next (Err reason) → IsAssembled set at text (Err (refused_at number reason))
walked-bad set at text number next rest line behind reason walked takes gives =
    walked.leads (Err (refused_at number reason))
    (subst (λ lines. Assembles set number next lines (Err (refused_at number reason))) (sym (lines-taken rest line behind takes)) (Err reason, gives, refl))

no-bytes : (xs : List ℕ) → length xs ≡ 0 → xs ≡ []
no-bytes [] none = refl
no-bytes (x ∷ xs) none = absurd (omega (arith, none))

pub walked-ends : (set : Isa) (at : ℕ) (text : List ℕ) (number next : ℕ) (rest : List ℕ) → Walked set at text number next rest → length rest ≡ 0 → HasBytes set at text
walked-ends set at text number next rest walked none =
    (walked.done ++ [], walked.leads (Ok []) (subst (λ t. Left set number next t (Ok [])) (sym (no-bytes rest none)) refl))

-- some bytes of the lines before one were put, and the others are held
pub record Putting (old new : Output) (set : Isa) (at : ℕ) (text : List ℕ) (next : ℕ) (rest held : List ℕ) : Type 0 where
  pub fits : next < 2 ^ 32
  pub bytes : List ℕ
  pub is : IsAssembled set at text (Ok bytes)
  pub number : ℕ
  pub done : List ℕ
  pub later : List ℕ
  pub grows : Grows old new done
  pub left : Left set number next rest (Ok later)
  pub split : bytes ≡ (done ++ held) ++ later

pub putting-begins : (o : Output) (set : Isa) (at : ℕ) (text held : List ℕ) → at < 2 ^ 32 → HasBytes set at text → held ≡ [] → Putting o o set at text at text held
putting-begins o set at text held fits (bytes, is) none =
    record { fits = fits; bytes = bytes; is = is; number = 1; done = []; later = bytes; grows = grows-none o; left = is; split = ap (λ h. h ++ bytes) (sym none) }

-- the line that was taken gave its bytes, and those behind it the rest
pub record Went (set : Isa) (number after : ℕ) (behind bytes later : List ℕ) : Type 0 where
  pub more : List ℕ
  pub left : Left set number after behind (Ok more)
  pub split : later ≡ bytes ++ more

went-by : (set : Isa) (number next : ℕ) (behind bytes later : List ℕ) (given : Result (List ℕ) Reason) (rest : Result (List ℕ) Refused) → given ≡ Ok bytes
    → Left set (number + 1) (onward next (length bytes)) behind rest → Ok later ≡ before bytes rest → Went set (number + 1) (onward next (length bytes)) behind bytes later
went-by set number next behind bytes later given (Ok more) same left is = let one : later ≡ bytes ++ more = cc in record { more = more; left = left; split = one }
went-by set number next behind bytes later given (Err refused) same left is = cc

went-with : (set : Isa) (number next : ℕ) (behind bytes later : List ℕ) (given : Result (List ℕ) Reason) → given ≡ Ok bytes
    → IsWithRest number given (λ count rest. Left set (number + 1) (onward next count) behind rest) (Ok later) → Went set (number + 1) (onward next (length bytes)) behind bytes later
went-with set number next behind bytes later (Err reason) same with = cc
went-with set number next behind bytes later (Ok more) same with =
    let one : more ≡ bytes = cc in
    went-by set number next behind bytes later (Ok more) with.0 same (subst (λ b. Left set (number + 1) (onward next (length b)) behind with.0) one with.1)
    (with.2 ∙ ap (λ b. before b with.0) one)

went : (set : Isa) (number next : ℕ) (rest line behind bytes later : List ℕ) → next < 2 ^ 32 → Takes rest line behind → IsGiven set line next (Ok bytes) → Left set number next rest (Ok later)
    → Went set (number + 1) (onward next (length bytes)) behind bytes later
went set number next rest line behind bytes later fits takes gives left =
    let own = subst (λ lines. Assembles set number next lines (Ok later)) (lines-taken rest line behind takes) left in
    went-with set number next behind bytes later own.0 (one_given set line next fits own.0 (Ok bytes) own.1 gives) own.2

adds-all : (old new : Output) (done held kept bytes more : List ℕ) (adds : Adds old new held kept bytes) → (done ++ held) ++ (bytes ++ more) ≡ ((done ++ adds.out) ++ kept) ++ more
adds-all old new done held kept bytes more adds =
    sym (append_assoc (done ++ held) bytes more)
    ∙ ap (λ xs. xs ++ more) (append_assoc done held bytes ∙ ap (λ xs. done ++ xs) adds.split ∙ sym (append_assoc done adds.out kept))

pub putting-on : (old mid new : Output) (set : Isa) (at : ℕ) (text : List ℕ) (next after : ℕ) (rest line behind held kept bytes : List ℕ) → Putting old mid set at text next rest held
    → Takes rest line behind → IsGiven set line next (Ok bytes) → after ≡ onward next (length bytes) → Adds mid new held kept bytes
    → Putting old new set at text after behind kept
putting-on old mid new set at text next after rest line behind held kept bytes putting takes gives same adds =
    let own : Went set (putting.number + 1) (onward next (length bytes)) behind bytes putting.later = went set putting.number next rest line behind bytes putting.later putting.fits takes gives putting.left in
    record {
      fits = omega (arith, same);
      bytes = putting.bytes;
      is = putting.is;
      number = putting.number + 1;
      done = putting.done ++ adds.out;
      later = own.more;
      grows = grows-more old mid new putting.done adds.out putting.grows adds.grows;
      left = subst (λ a. Left set (putting.number + 1) a behind (Ok own.more)) (sym same) own.left;
      split = putting.split ∙ ap (λ xs. (putting.done ++ held) ++ xs) own.split ∙ adds-all mid new putting.done held kept bytes own.more adds;
    }

-- each line of a text that is not refused gives bytes
some-bytes : (set : Isa) (number next : ℕ) (line later : List ℕ) (given : Result (List ℕ) Reason) (Rest : ℕ → Result (List ℕ) Refused → Type 0) → IsGiven set line next given
    → IsWithRest number given Rest (Ok later) → GivesBytes set line next
some-bytes set number next line later (Ok bytes) Rest is with = (bytes, is)
some-bytes set number next line later (Err reason) Rest is with = cc

pub putting-known : (old mid : Output) (set : Isa) (at : ℕ) (text : List ℕ) (next : ℕ) (rest line behind held : List ℕ) → Putting old mid set at text next rest held → Takes rest line behind → GivesBytes set line next
putting-known old mid set at text next rest line behind held putting takes =
    let own = subst (λ lines. Assembles set putting.number next lines (Ok putting.later)) (lines-taken rest line behind takes) putting.left in
    some-bytes set putting.number next line putting.later own.0 (λ count rest. Left set (putting.number + 1) (onward next count) behind rest) own.1 own.2

-- the held bytes were not put
pub putting-breaks : (old mid new : Output) (set : Isa) (at : ℕ) (text : List ℕ) (next : ℕ) (rest held : List ℕ) → Putting old mid set at text next rest held → Breaks mid new [] held → OfBytes set at text (StopsWithin old new)
putting-breaks old mid new set at text next rest held putting breaks =
    record {
      bytes = putting.bytes;
      is = putting.is;
      puts = record {
        before = putting.done;
        line = held;
        rest = putting.later;
        order = putting.split ∙ append_assoc putting.done held putting.later;
        breaks = subst (λ xs. Breaks old new xs held) (append-nil putting.done) (breaks-after old mid new putting.done [] held putting.grows breaks);
      };
    }

-- or they were, and are all
nothing-left : (set : Isa) (number next : ℕ) (rest later : List ℕ) → rest ≡ [] → Left set number next rest (Ok later) → later ≡ []
nothing-left set number next rest later none left = let same : Ok later ≡ Ok [] = subst (λ t. Left set number next t (Ok later)) none left in cc

pub putting-ends : (old mid new : Output) (set : Isa) (at : ℕ) (text : List ℕ) (next : ℕ) (rest held : List ℕ) → Putting old mid set at text next rest held
    → length rest ≡ 0 → Grows mid new held → OfBytes set at text (Grows old new)
putting-ends old mid new set at text next rest held putting none grows =
    let whole : putting.bytes ≡ putting.done ++ held
    = putting.split ∙ ap (λ xs. (putting.done ++ held) ++ xs) (nothing-left set putting.number next rest putting.later (no-bytes rest none) putting.left) ∙ append-nil (putting.done ++ held) in
    record { bytes = putting.bytes; is = putting.is; puts = subst (Grows old new) (sym whole) (grows-more old mid new putting.done held putting.grows grows) }

pub err-from : {V E P : Type 0} (r : Result V E) → P → OnErr r P
err-from (Ok v) p = tt
err-from (Err e) p = p

pub err-of : {V E P : Type 0} (r : Result V E) (Q : Type 0) → (Q → P) → OnErr r Q → OnErr r P
err-of {V} {E} {P} (Ok v) Q f q = tt
err-of {V} {E} {P} (Err e) Q f q = f q

pub ok-of : {V E P : Type 0} (r : Result V E) (Q : Type 0) → (Q → P) → OnOk r Q → OnOk r P
ok-of {V} {E} {P} (Ok v) Q f q = f q
ok-of {V} {E} {P} (Err e) Q f q = tt
