-- A step of a machine to which nothing outside is given.
use Rattle.std.proofs.Common.{◌≡◌, ℕ, List, [], Some, None, inl, inr, refl, ap, subst, arith}
use Rattle.mix_bits.specs.declared.isa.Isa.{Isa}
use Rattle.mix_bits.specs.declared.fault.Fault.{Fault}
use Rattle.mix_io.specs.Counts.{Rose}
use Rattle.switch_frame.specs.declared.active.Active.{Active}
use Rattle.switch_frame.specs.Records.{isa_of}
use Rattle.toolbox.specs.Calls.{Taken}
use Rattle.toolbox.specs.CallsClauses.{outside}
use Rattle.mixed_machine.specs.declared.body.Body.{Body}
use Rattle.mixed_machine.specs.declared.stop.Stop.{Stop}
use Rattle.mixed_machine.specs.declared.stop.Stop.TheVariants.{Exit as ExitStop, Fault as FaultStop, Limit as LimitStop}
use Rattle.mixed_machine.specs.Exec.How.{Exited, Faulted, Limited}
use Rattle.mixed_machine.specs.Machine.{flat}
use Rattle.mixed_machine.specs.OutsideClauses.{At, at}
use Rattle.mixed_machine.specs.Outside.{TookAll, ToldAll}
use Rattle.mixed_machine.specs.RunsClauses.{Runs, sinks_of}
use Rattle.mixed_machine.specs.Runs.{Stops}
use Rattle.mix_top.specs.inner.Samples.{Steps}
use Rattle.mix_top.specs.Samples.{nothing}
use Rattle.call_trace.specs.declared.end.End.TheVariants.{Exit as ExitEnd, Fault as FaultEnd, Limit as LimitEnd}

-- the machine, with nothing outside
abbrev pub alone : Body → Active → At
alone body active = at body active (outside (Some []) 0 (record { slots = []; journal = [] }) None 0) (record { held = None; faults = 0 })

-- nothing is taken from an input that has nothing
took-none : (taken : List Taken) → ToldAll taken (Some []) (Some []) → TookAll taken [] []
took-none taken told = let fits = told [] refl in subst (λ before. TookAll taken before []) fits.1 fits.2

ran-alone : (b c : Body) (x y : Active) (stop : Stop) (runs : Runs 1 (alone b x) (alone c y) stop)
    → Stops 0 1 runs.left (flat b x nothing) (flat c y nothing) (sinks_of (alone b x)) (sinks_of (alone c y)) stop
ran-alone b c x y stop runs = runs.run.each [] [] [] (took-none runs.run.taken runs.run.told)

pub alone-exits : (b c : Body) (x y : Active) (code : ℕ) → Runs 1 (alone b x) (alone c y) (ExitStop code) → Steps (flat b x nothing) (flat c y nothing) (ExitEnd code)
alone-exits b c x y code runs = record { left = runs.left; how = Exited code; ends = (ran-alone b c x y (ExitStop code) runs).ends; end_is = refl }

pub alone-faults : (b c : Body) (x y : Active) (set : Isa) (fault : Fault) → set ≡ isa_of y → Runs 1 (alone b x) (alone c y) (FaultStop fault)
    → Steps (flat b x nothing) (flat c y nothing) (FaultEnd set fault)
alone-faults b c x y set fault set_is runs =
    record { left = runs.left; how = Faulted fault; ends = (ran-alone b c x y (FaultStop fault) runs).ends; end_is = ap (λ s. FaultEnd s fault) set_is }

pub alone-goes : (b c : Body) (x y : Active) → Runs 1 (alone b x) (alone c y) LimitStop → Steps (flat b x nothing) (flat c y nothing) LimitEnd
alone-goes b c x y runs = record { left = runs.left; how = Limited; ends = (ran-alone b c x y LimitStop runs).ends; end_is = refl }
