-- Steps in the rings.
use Rattle.std.proofs.Common.{◌≡◌, ℕ, suc, ◌+◌, ◌-◌, ◌*◌, ◌≤◌, List, [], ◌∷◌, ◌++◌, length, take, drop, arith, ap, sym, ◌∙◌, refl}
use Rattle.std.specs.Prelude.{All}
use Rattle.std.proofs.lemmas.Bool.{le-leb}
use Rattle.std.proofs.lemmas.List.{append_assoc, length-append, take_at, drop_at}
use Rattle.std.proofs.lemmas.List.Elements.{All-head, All-tail}
use Rattle.switch_frame.specs.declared.active.Active.{Active}
use Rattle.switch_frame.specs.declared.active.Active.TheVariants.{M68, Ppc}
use Rattle.mix_debug.specs.declared.head.Span.{Span}
use Rattle.mix_debug.specs.Changes.{Run, runs_cost}
use Rattle.mix_debug.specs.WrittenBack.{olds_of}
use Rattle.mix_debug.specs.Entries.{Entry, IsCounted, all_olds, all_spans, head_cost, heads_of, runs_of, spans_of, total, within}
use Rattle.mix_debug.specs.inner.Entries.{count_of}
use Rattle.mix_debug.specs.Costs.{file_cost}

pub length-spans : (rs : List Run) → length (spans_of rs) ≡ length rs
unfolding spans_of
length-spans [] = refl
length-spans (r ∷ rs) = ap suc (length-spans rs)

-- runs are read back from their places and bytes
pub runs-back : (rs : List Run) (behind : List ℕ) → runs_of (spans_of rs) (olds_of rs ++ behind) ≡ rs
unfolding runs_of spans_of olds_of
runs-back [] behind = refl
runs-back (r ∷ rs) behind =
    let bytes : (r.old ++ olds_of rs) ++ behind ≡ r.old ++ (olds_of rs ++ behind) = append_assoc r.old (olds_of rs) behind in
    let first : take (length r.old) (r.old ++ (olds_of rs ++ behind)) ≡ r.old = take_at r.old (olds_of rs ++ behind) (length r.old) refl in
    let rest : drop (length r.old) (r.old ++ (olds_of rs ++ behind)) ≡ olds_of rs ++ behind = drop_at r.old (olds_of rs ++ behind) (length r.old) refl in
    rw (bytes, first, rest) (ap (λ zs. r ∷ zs) (runs-back rs behind))

pub count-spans : (rs : List Run) → count_of (spans_of rs) ≡ length (olds_of rs)
unfolding count_of spans_of olds_of
count-spans [] = refl
count-spans (r ∷ rs) = omega (arith, count-spans rs, length-append r.old (olds_of rs))

-- the parts of the newest step in front of others
pub record Front (e : Entry) (es : List Entry) (spans : List Span) (olds : List ℕ) : Type 0 where
  pub spans_front : take e.head.runs spans ≡ spans_of e.runs
  pub spans_rest : drop e.head.runs spans ≡ all_spans es
  pub olds_rest : drop e.head.olds olds ≡ all_olds es
  pub runs_are : runs_of (take e.head.runs spans) olds ≡ e.runs
  pub count_is : count_of (take e.head.runs spans) ≡ e.head.olds
  pub few : e.head.runs ≤ length spans
  pub small : e.head.olds ≤ length olds

pub front-is : (e : Entry) (es : List Entry) → IsCounted e → Front e es (spans_of e.runs ++ all_spans es) (olds_of e.runs ++ all_olds es)
front-is e es counted =
    let long : length (spans_of e.runs) ≡ e.head.runs = length-spans e.runs ∙ sym counted.runs in
    let front : take e.head.runs (spans_of e.runs ++ all_spans es) ≡ spans_of e.runs = take_at (spans_of e.runs) (all_spans es) e.head.runs long in
    record {
      spans_front = front;
      spans_rest = drop_at (spans_of e.runs) (all_spans es) e.head.runs long;
      olds_rest = drop_at (olds_of e.runs) (all_olds es) e.head.olds (sym counted.olds);
      runs_are = ap (λ ss. runs_of ss (olds_of e.runs ++ all_olds es)) front ∙ runs-back e.runs (all_olds es);
      count_is = ap count_of front ∙ count-spans e.runs ∙ sym counted.olds;
      few = omega (arith, long, length-append (spans_of e.runs) (all_spans es));
      small = omega (arith, counted.olds, length-append (olds_of e.runs) (all_olds es));
    }

-- how much room they take in the rings
pub least-file : (file : Active) → 98 ≤ file_cost file
least-file (M68 file) = omega arith
least-file (Ppc file) = omega arith

pub room-taken : (es : List Entry) → All IsCounted es → 98 * length (heads_of es) + 8 * length (all_spans es) + length (all_olds es) ≤ total es
unfolding heads_of all_spans all_olds total
room-taken [] counted = omega arith
room-taken (e ∷ es) counted =
    let rest = room-taken es (All-tail IsCounted e es counted) in
    let here = All-head IsCounted e es counted in
    let runs : e.head.runs ≡ length e.runs = here.runs in
    let olds : e.head.olds ≡ length (olds_of e.runs) = here.olds in
    omega (arith, rest, runs, olds, least-file e.head.file, length-spans e.runs, length-append (spans_of e.runs) (all_spans es), length-append (olds_of e.runs) (all_olds es))

-- how much history runs take
pub cost-runs : (rs : List Run) → runs_cost rs ≡ 8 * length rs + length (olds_of rs)
unfolding runs_cost olds_of
cost-runs [] = refl
cost-runs (r ∷ rs) = omega (arith, cost-runs rs, length-append r.old (olds_of rs))

-- the last of several steps
pub heads-append : (es fs : List Entry) → heads_of (es ++ fs) ≡ heads_of es ++ heads_of fs
unfolding heads_of
heads-append [] fs = refl
heads-append (e ∷ es) fs = ap (λ zs. e.head ∷ zs) (heads-append es fs)

pub spans-append : (es fs : List Entry) → all_spans (es ++ fs) ≡ all_spans es ++ all_spans fs
unfolding all_spans
spans-append [] fs = refl
spans-append (e ∷ es) fs = ap (λ zs. spans_of e.runs ++ zs) (spans-append es fs) ∙ sym (append_assoc (spans_of e.runs) (all_spans es) (all_spans fs))

pub olds-append : (es fs : List Entry) → all_olds (es ++ fs) ≡ all_olds es ++ all_olds fs
unfolding all_olds
olds-append [] fs = refl
olds-append (e ∷ es) fs = ap (λ zs. olds_of e.runs ++ zs) (olds-append es fs) ∙ sym (append_assoc (olds_of e.runs) (all_olds es) (all_olds fs))

pub total-append : (es fs : List Entry) → total (es ++ fs) ≡ total es + total fs
unfolding total
total-append [] fs = omega arith
total-append (e ∷ es) fs = omega (arith, total-append es fs)

-- the steps for which there is room
pub within-all : (room : ℕ) (es : List Entry) → total es ≤ room → within room es ≡ es
unfolding within total
within-all room [] fits = refl
within-all room (e ∷ es) fits =
    let here : head_cost e.head ≤ room = omega (arith, fits) in
    rw (le-leb (head_cost e.head) room here) (ap (λ zs. e ∷ zs) (within-all (room - head_cost e.head) es (omega (arith, fits))))
