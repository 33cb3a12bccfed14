-- A piece that was not put whole, behind others that were.
use Rattle.std.proofs.Common.{List, [], ◌++◌, ℕ, sym, ap, ◌∙◌, subst, append_assoc, append-nil}
use Rattle.mix_io.specs.Streams.{Breaks, Grows, Output, StopsWithin}
use Rattle.mix_io.proofs.Streams.{breaks-after, grows-more}

pub cut : (a b : Output) (piece : List ℕ) → Breaks a b [] piece → StopsWithin a b piece
cut a b piece breaks = record { before = []; line = piece; rest = []; order = sym (append-nil piece); breaks = breaks }

-- behind a piece, and behind all that was put so far
pub cut-second : (a b c : Output) (xs ys : List ℕ) → Grows a b xs → Breaks b c [] ys → StopsWithin a c (xs ++ ys)
cut-second a b c xs ys grows breaks =
    record {
      before = xs;
      line = ys;
      rest = [];
      order = ap (λ l. xs ++ l) (sym (append-nil ys));
      breaks = subst (λ l. Breaks a c l ys) (append-nil xs) (breaks-after a b c xs [] ys grows breaks);
    }

pub stops-after : (a b c : Output) (xs text : List ℕ) → Grows a b xs → StopsWithin b c text → StopsWithin a c (xs ++ text)
stops-after a b c xs text grows stops =
    record {
      before = xs ++ stops.before;
      line = stops.line;
      rest = stops.rest;
      order = ap (λ l. xs ++ l) stops.order ∙ sym (append_assoc xs stops.before (stops.line ++ stops.rest));
      breaks = breaks-after a b c xs stops.before stops.line grows stops.breaks;
    }

-- and nothing more was put
pub cut-behind : (a b c : Output) (xs : List ℕ) → Grows a b xs → Grows b c [] → Grows a c xs
cut-behind a b c xs first second = subst (Grows a c) (append-nil xs) (grows-more a b c xs [] first second)
