-- A span again and again.
use Rattle.std.proofs.Common.{◌≡◌, ℕ, suc, ◌+◌, ◌-◌, ◌<◌, List, Ok, Err, arith, ap, sym, ◌∙◌}
use Rattle.mix_bits.specs.Results.{◌>>=◌}
use Rattle.pef_reloc.specs.Additions.{Sources, State, Refused}
use Rattle.pef_reloc.specs.Program.{run_span, run_times}

run_first : (sources : Sources) (span : List ℕ) (n k : ℕ) (s : State) → k < n → run_times sources span (n - k) s ≡ (run_span sources span s >>= run_times sources span (n - (k + 1)))
run_first sources span n k s more = let e : n - k ≡ suc (n - (k + 1)) = omega arith in ap (λ m. run_times sources span m s) e

pub times_ok : (sources : Sources) (span : List ℕ) (n k : ℕ) (s t : State) → k < n → Ok t ≡ run_span sources span s → run_times sources span (n - (k + 1)) t ≡ run_times sources span (n - k) s
times_ok sources span n k s t more done =
    ap (λ r. r >>= run_times sources span (n - (k + 1))) done ∙ sym (run_first sources span n k s more)

pub times_err : (sources : Sources) (span : List ℕ) (n k : ℕ) (s : State) (r : Refused) → k < n → Err r ≡ run_span sources span s → Err r ≡ run_times sources span (n - k) s
times_err sources span n k s r more done =
    ap (λ r. r >>= run_times sources span (n - (k + 1))) done ∙ sym (run_first sources span n k s more)
