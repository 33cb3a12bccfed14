-- Claims on the sessions that a debugger stands for, one after the other.
use Rattle.std.proofs.Common.{[], ◌++◌, Option, None, sym, subst}
use Rattle.mix_io.specs.Streams.{Output}
use Rattle.dev_rack.proofs.Steps.{accounts-join, accounts-none}
use Rattle.toolbox.specs.Calls.{Outside, answers_since}
use Rattle.toolbox.specs.Effects.{Around}
use Rattle.toolbox.specs.Blames.{BlamesOnly}
use Rattle.toolbox.proofs.Blaming.{blamed-after, calm-first}
use Rattle.toolbox.specs.Calls.{around_at}
use Rattle.mixed_machine.proofs.Over.{since-more, since-none, told-both, told-none, took-append}
use Rattle.mix_debug.specs.TrailsClauses.{Trail}
use Rattle.mix_top.specs.Sessions.{Session}
use Rattle.mix_top.specs.Debuggers.{session_of}
use Rattle.mix_top.specs.Places.{Over, Place, counts_in, place, session_at}
use Rattle.toolbox.specs.declared.broken.Broken.{Broken}

-- nothing was taken, and no device asked
pub over-beside : (stop : Option Broken) (P : Session → Session → Type 0) (t u : Trail) (o : Outside) (x y : Output) → BlamesOnly stop (counts_in (place t o x)) (counts_in (place u o y))
    → ((around : Around) → P (session_of t around) (session_of u around)) → Over stop P (place t o x) (place u o y)
over-beside stop P t u o x y blames same =
    record {
      blames = blames;
      devices = accounts-none o.rack;
      claim = record {
        taken = [];
        told = told-none o.input.left;
        each = λ before after rest took.
            subst (λ input. P (session_at (place t o x) input (answers_since o.rack o.rack ++ rest)) (session_at (place u o y) after rest)) (sym took)
            (subst (λ xs. P (session_at (place t o x) after (xs ++ rest)) (session_at (place u o y) after rest)) (sym (since-none o.rack))
            (same (around_at o after rest)));
      };
    }

pub over-none : (P : Session → Session → Type 0) (a : Place) → ((around : Around) → P (session_of a.trail around) (session_of a.trail around)) → Over None P a a
over-none P a same = over-beside None P a.trail a.trail a.outside a.trace a.trace (calm-first (counts_in a)) same

-- another claim on the same sessions
pub over-same : (stop : Option Broken) (P Q : Session → Session → Type 0) (a b : Place) → ((x y : Around) → P (session_of a.trail x) (session_of b.trail y) → Q (session_of a.trail x) (session_of b.trail y))
    → Over stop P a b → Over stop Q a b
over-same stop P Q a b implies first =
    record {
      blames = first.blames;
      devices = first.devices;
      claim = record {
        taken = first.claim.taken;
        told = first.claim.told;
        each = λ before after rest took. implies _ _ (first.claim.each before after rest took);
      };
    }

-- one claim after another
pub over-more : (stop : Option Broken) (P Q R : Session → Session → Type 0) (a b c : Place)
    → ((x y z : Around) → P (session_of a.trail x) (session_of b.trail y) → Q (session_of b.trail y) (session_of c.trail z) → R (session_of a.trail x) (session_of c.trail z))
    → Over None P a b → Over stop Q b c → Over stop R a c
over-more stop P Q R a b c joins first more =
    record {
      blames = blamed-after stop (counts_in a) (counts_in b) (counts_in c) first.blames more.blames;
      devices = accounts-join a.outside.rack b.outside.rack c.outside.rack first.devices more.devices;
      claim = record {
        taken = first.claim.taken ++ more.claim.taken;
        told = told-both first.claim.taken more.claim.taken a.outside.input.left b.outside.input.left c.outside.input.left first.claim.told more.claim.told;
        each = λ before after rest took.
            let mid = took-append first.claim.taken more.claim.taken before after took in
            subst (λ xs. R (session_at a before xs) (session_at c after rest)) (since-more a.outside.rack b.outside.rack c.outside.rack rest first.devices more.devices)
            (joins _ _ _ (first.claim.each before mid.0 (answers_since b.outside.rack c.outside.rack ++ rest) mid.1) (more.claim.each mid.0 after rest mid.2));
      };
    }
