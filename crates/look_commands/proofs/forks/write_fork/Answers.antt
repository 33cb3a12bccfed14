-- The fork that was found is put, or what is put without one.
use Rattle.std.proofs.Common.{◌≡◌, ℕ, List, Option, Result, subst}
use Rattle.wrapped_forks.specs.declared.fork.Fork.{Fork}
use Rattle.wrapped_forks.specs.declared.wrapping.ForkError.{ForkError}
use Rattle.wrapped_forks.specs.declared.wrapping.ForkPlace.{ForkPlace}
use Rattle.look_commands.specs.Forks.{PutsForkOf}
use Rattle.look_commands.proofs.forks.write_fork.Goals as goal

put : (bytes : List ℕ) (which : Fork) (given found : Result ForkPlace ForkError) (old new : Option (List ℕ)) (status : ℕ) → given ≡ found
    → PutsForkOf bytes which given old new status → PutsForkOf bytes which found old new status
put bytes which given found old new status is written = subst (λ r. PutsForkOf bytes which r old new status) is written

pub returns-in-Ok : goal.returns-in-Ok
returns-in-Ok g c = put _ _ _ _ _ _ _ c.in-Ok.ensures.fork c.print.ensures

pub returns-in-Err : goal.returns-in-Err
returns-in-Err g c = put _ _ _ _ _ _ _ c.in-Err.ensures.fork c.write_unwrapped.ensures
