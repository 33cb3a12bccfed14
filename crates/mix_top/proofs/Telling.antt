-- Texts on the trace, and the commands of a script.
use Rattle.std.proofs.Common.{◌≡◌, ℕ, ◌<◌, ◌==◌, ◌&&◌, nat_lt, not, Bool, true, false, if◌then◌else◌, List, [], ◌∷◌, ◌++◌, length, Option, Some, None, arith, ap, sym, subst, ◌∙◌, refl, append-nil, append_assoc, length-append}
use Rattle.std.specs.Prelude.{codes, filter}
use Rattle.std.specs.List.{list_any}
use Rattle.mix_io.specs.Streams.{Grows, Output}
use Rattle.mix_io.proofs.Streams.{grows-none}
use Rattle.call_trace.specs.Lines.{end_line}
use Rattle.call_trace.specs.declared.end.End.{End}
use Rattle.call_trace.specs.declared.end.End.TheVariants.{Exit, Fault, Limit}
use Rattle.switch_frame.specs.declared.active.Active.{Active}
use Rattle.toolbox.specs.Calls.{Outside}
use Rattle.toolbox.specs.Effects.{Around}
use Rattle.mixed_machine.specs.Runs.{Sinks}
use Rattle.mixed_machine.specs.Machine.{callers_of}
use Rattle.mix_engine.specs.declared.machine.Machine.{Machine}
use Rattle.mix_debug.specs.Crawl.{caller_lines, here_line, place_of}
use Rattle.mix_debug.specs.CrawlClauses.{crawl_of}
use Rattle.mix_debug.specs.TrailsClauses.{Trail}
use Rattle.mix_top.specs.Sessions.{Session}
use Rattle.mix_top.specs.Debuggers.{session_of}
use Rattle.mix_top.specs.Events.{Event, Walk, after, answer, at_line, can_set, is_set, end_events, events_in, events_of, lines_by, said_by, tells, told, told_behind}
use Rattle.mix_top.specs.Places.{Over, Place, counts_in, place, sinks_in}
use Rattle.mix_top.specs.Plays.{AllDone, Played}
use Rattle.mix_top.specs.Performing.{Does}
use Rattle.mix_top.specs.inner.ScriptParts.{TellsEnd, TellsTo, Walks, WalksBack}
use Rattle.mix_top.specs.declared.command.ScriptCommand.{ScriptCommand}
use Rattle.mix_top.specs.declared.command.ScriptCommand.TheVariants.{Break, Clear, Where}
use Rattle.toolbox.specs.declared.broken.Broken.{Broken}
use Rattle.toolbox.specs.declared.broken.Broken.TheVariants.{Input, Output as Out, Trace}
use Rattle.mix_top.specs.declared.walk.Walked.{Walked}
use Rattle.toolbox.specs.Blames.{BlamesOnly}
use Rattle.toolbox.proofs.Blaming.{calm-first}
use Rattle.mix_top.proofs.Overs.{over-beside, over-more, over-none, over-same}
use Rattle.mix_top.proofs.Playing.{all-more, all-none, played-as, played-front, played-more}

-- ---- one text

played-text : (stop : Option Broken) (text : List ℕ) (s t : Session) (out : Output) (x y : Output) → 0 < length text → TellsTo text x y stop
    → Played stop (tells text t ∷ []) s t (record { out = out; trace = x }) (record { out = out; trace = y })
unfolding after said_by lines_by
played-text None text s t out x y some grows =
    record { end_is = refl; said = grows-none out; traced = subst (Grows x y) (sym (append-nil text)) grows }
played-text (Some Input) text s t out x y some none = absurd none
played-text (Some Out) text s t out x y some none = absurd none
played-text (Some Trace) text s t out x y some breaks =
    record { before = []; event = tells text t; behind = []; order = refl; tells = some; end_is = refl; said = grows-none out; traced = breaks }

blames-text : (stop : Option Broken) (text : List ℕ) (t u : Trail) (o : Outside) (x y : Output) → TellsTo text x y stop → BlamesOnly stop (counts_in (place t o x)) (counts_in (place u o y))
blames-text None text t u o x y grows = record { input = refl; out = refl; trace = grows.calm }
blames-text (Some Input) text t u o x y none = absurd none
blames-text (Some Out) text t u o x y none = absurd none
blames-text (Some Trace) text t u o x y breaks = record { input = refl; out = refl; trace = breaks.rose }

-- a debugger did one event, which has a text alone
pub does-text : (events : Session → List Event) (stop : Option Broken) (text : List ℕ) (t u : Trail) (o : Outside) (x y : Output)
    → ((around : Around) → events (session_of t around) ≡ tells text (session_of u around) ∷ []) → 0 < length text → TellsTo text x y stop → Does events (place t o x) (place u o y) stop
does-text events stop text t u o x y is some told_to =
    over-beside stop (λ s r. Played stop (events s) s r (sinks_in (place t o x)) (sinks_in (place u o y))) t u o x y (blames-text stop text t u o x y told_to)
    (λ around. played-as stop (tells text (session_of u around) ∷ []) (events (session_of t around)) (session_of t around) (session_of u around) (sinks_in (place t o x)) (sinks_in (place u o y)) (sym (is around))
    (played-text stop text (session_of t around) (session_of u around) o.out x y some told_to))

-- ---- events after events

pub does-more : (first more : Session → List Event) (a b c : Place) (stop : Option Broken) → Does first a b None → Does more b c stop → Does (λ s. first s ++ more (after s (first s))) a c stop
does-more first more a b c stop did does =
    over-more stop _ _ _ a b c (λ x y z all part.
    played-more stop (first (session_of a.trail x)) (more (after (session_of a.trail x) (first (session_of a.trail x)))) _ _ _ (sinks_in a) (sinks_in b) (sinks_in c) all
    (played-as stop (more (session_of b.trail y)) _ _ _ (sinks_in b) (sinks_in c) (ap more all.end_is) part))
    did does

pub does-front : (first more : Session → List Event) (a b : Place) (stopped : Broken) → Does first a b (Some stopped) → Does (λ s. first s ++ more (after s (first s))) a b (Some stopped)
does-front first more a b stopped did =
    over-same (Some stopped) _ _ a b (λ x y part. played-front stopped (first (session_of a.trail x)) (more (after (session_of a.trail x) (first (session_of a.trail x)))) _ _ (sinks_in a) (sinks_in b) part) did

pub does-as : (f g : Session → List Event) (a b : Place) (stop : Option Broken) → ((around : Around) → f (session_of a.trail around) ≡ g (session_of a.trail around)) → Does f a b stop → Does g a b stop
does-as f g a b stop same does = over-same stop _ _ a b (λ x y part. played-as stop (f (session_of a.trail x)) (g (session_of a.trail x)) _ _ (sinks_in a) (sinks_in b) (same x) part) does

-- ---- what is told behind steps

does-end : (end : Option End) (stop : Option Broken) (t : Trail) (o : Outside) (x y : Output) → ((e : End) → 0 < length (end_line e)) → TellsEnd end x y stop → Does (end_events end) (place t o x) (place t o y) stop
does-end None stop t o x y some same =
    subst (λ r. Does (end_events None) (place t o x) (place t o y) r) (sym same.1)
    (subst (λ w. Does (end_events None) (place t o x) (place t o w) None) (sym same.0)
    (over-none (λ s r. Played None [] s r (sinks_in (place t o x)) (sinks_in (place t o x))) (place t o x) (λ around. all-none (session_of t around) (sinks_in (place t o x)))))
does-end (Some e) stop t o x y some told_to = does-text (end_events (Some e)) stop (end_line e) t t o x y (λ around. refl) (some e) told_to

-- an end changes nothing
after-end : (end : Option End) (s : Session) → after s (end_events end s) ≡ s
unfolding after
after-end None s = refl
after-end (Some e) s = refl

abbrev place_event : ℕ → Session → List Event
place_event count s = tells (at_line count s.state.active) s ∷ []

behind-as : (end : Option End) (count : ℕ) (s : Session) → end_events end s ++ place_event count (after s (end_events end s)) ≡ told_behind end count s
behind-as end count s = ap (λ t. end_events end s ++ place_event count t) (after-end end s)

pub does-behind : (end : Option End) (count : ℕ) (stop : Option Broken) (t : Trail) (o : Outside) (x y z : Output) → ((e : End) → 0 < length (end_line e)) → 0 < length (at_line count t.machine.active)
    → TellsEnd end x y None → TellsTo (at_line count t.machine.active) y z stop → Does (told_behind end count) (place t o x) (place t o z) stop
does-behind end count stop t o x y z some some_place end_told place_told =
    does-as (λ s. end_events end s ++ place_event count (after s (end_events end s))) (told_behind end count) (place t o x) (place t o z) stop (λ around. behind-as end count (session_of t around))
    (does-more (end_events end) (place_event count) (place t o x) (place t o y) (place t o z) stop (does-end end None t o x y some end_told)
    (does-text (place_event count) stop (at_line count t.machine.active) t t o y z (λ around. refl) some_place place_told))

pub does-behind_front : (end : Option End) (count : ℕ) (stopped : Broken) (t : Trail) (o : Outside) (x y : Output) → ((e : End) → 0 < length (end_line e))
    → TellsEnd end x y (Some stopped) → Does (told_behind end count) (place t o x) (place t o y) (Some stopped)
does-behind_front end count stopped t o x y some end_told =
    does-as (λ s. end_events end s ++ place_event count (after s (end_events end s))) (told_behind end count) (place t o x) (place t o y) (Some stopped) (λ around. behind-as end count (session_of t around))
    (does-front (end_events end) (place_event count) (place t o x) (place t o y) stopped (does-end end (Some stopped) t o x y some end_told))

-- ---- steps, and what is told behind them

walk-told : (w : Walk) (walked : Walked) (s t : Session) (a b : Sinks) → Walks w walked s t a b → w.steps ++ told_behind walked.end walked.done t ≡ told s w
walk-told w walked s t a b walks =
    ap (λ e. w.steps ++ told_behind e walked.done t) (sym walks.ending)
    ∙ (ap (λ n. w.steps ++ told_behind w.ending n t) (sym walks.count) ∙ ap (λ r. w.steps ++ told_behind w.ending (length w.steps) r) walks.all.end_is)

pub does-walk : (walk : Session → Walk) (walked : Walked) (a b c : Place) (stop : Option Broken) → Over None (λ s t. Walks (walk s) walked s t (sinks_in a) (sinks_in b)) a b
    → Does (told_behind walked.end walked.done) b c stop → Does (λ s. told s (walk s)) a c stop
does-walk walk walked a b c stop walks does =
    over-more stop _ _ _ a b c (λ x y z own part.
    played-as stop ((walk (session_of a.trail x)).steps ++ told_behind walked.end walked.done (session_of b.trail y)) (told (session_of a.trail x) (walk (session_of a.trail x))) _ _ (sinks_in a) (sinks_in c)
    (walk-told (walk (session_of a.trail x)) walked (session_of a.trail x) (session_of b.trail y) (sinks_in a) (sinks_in b) own)
    (played-more stop (walk (session_of a.trail x)).steps (told_behind walked.end walked.done (session_of b.trail y)) _ _ _ (sinks_in a) (sinks_in b) (sinks_in c) own.all part))
    walks does

pub does-walk_front : (walk : Session → Walk) (a b : Place) (stopped : Broken) → Over (Some stopped) (λ s t. Played (Some stopped) (walk s).steps s t (sinks_in a) (sinks_in b)) a b
    → Does (λ s. told s (walk s)) a b (Some stopped)
does-walk_front walk a b stopped part =
    over-same (Some stopped) _ _ a b (λ x y own.
    let s : Session = session_of a.trail x in
    let w : Walk = walk s in
    played-front stopped w.steps (told_behind w.ending (length w.steps) (after s w.steps)) s (session_of b.trail y) (sinks_in a) (sinks_in b) own) part

-- steps back put nothing
walks-of_back : (w : Walk) (walked : Walked) (s t : Session) (a : Sinks) → WalksBack w walked s t → Walks w walked s t a a
walks-of_back w walked s t a walks =
    record {
      all = record {
        end_is = walks.end_is;
        said = subst (Grows a.out a.out) (sym walks.said) (grows-none a.out);
        traced = subst (Grows a.trace a.trace) (sym walks.traced) (grows-none a.trace);
      };
      count = walks.count;
      ending = walks.ending;
    }

pub walks-beside : (walk : Session → Walk) (walked : Walked) (t u : Trail) (o : Outside) (x : Output) → ((around : Around) → WalksBack (walk (session_of t around)) walked (session_of t around) (session_of u around))
    → Over None (λ s r. Walks (walk s) walked s r (sinks_in (place t o x)) (sinks_in (place u o x))) (place t o x) (place u o x)
walks-beside walk walked t u o x walks =
    over-beside None (λ s r. Walks (walk s) walked s r (sinks_in (place t o x)) (sinks_in (place u o x))) t u o x x (calm-first (counts_in (place t o x)))
    (λ around. walks-of_back (walk (session_of t around)) walked (session_of t around) (session_of u around) (sinks_in (place t o x)) (walks around))

-- ---- the commands of a script

pub record Running (commands left : List ScriptCommand) (s t : Session) (old new : Sinks) : Type 0 where
  pub events : List Event
  pub order : events_in commands s ≡ events ++ events_in left t
  pub all : AllDone events s t old new

abbrev pub RunningAt : List ScriptCommand → List ScriptCommand → Place → Place → Type 0
RunningAt commands left a b = Over None (λ s t. Running commands left s t (sinks_in a) (sinks_in b)) a b

pub running-begins : (commands : List ScriptCommand) (a : Place) → RunningAt commands commands a a
running-begins commands a =
    over-none (λ s t. Running commands commands s t (sinks_in a) (sinks_in a)) a (λ around. record { events = []; order = refl; all = all-none (session_of a.trail around) (sinks_in a) })

-- one command more
events-more : (commands left rest : List ScriptCommand) (c : ScriptCommand) (s t : Session) (events : List Event) → left ≡ c ∷ rest → events_in commands s ≡ events ++ events_in left t
    → events_in commands s ≡ events ++ (events_of c t ++ events_in rest (after t (events_of c t)))
unfolding events_in
events-more commands left rest c s t events is order = order ∙ ap (λ cs. events ++ events_in cs t) is

running-one : (commands left rest : List ScriptCommand) (c : ScriptCommand) (s t u : Session) (a b d : Sinks) → left ≡ c ∷ rest → Running commands left s t a b → AllDone (events_of c t) t u b d → Running commands rest s u a d
running-one commands left rest c s t u a b d is running all =
    record {
      events = running.events ++ events_of c t;
      order = events-more commands left rest c s t running.events is running.order
          ∙ (sym (append_assoc running.events (events_of c t) (events_in rest (after t (events_of c t)))) ∙ ap (λ r. (running.events ++ events_of c t) ++ events_in rest r) (sym all.end_is));
      all = all-more running.events (events_of c t) s t u a b d running.all all;
    }

pub running-on : (commands left rest : List ScriptCommand) (c : ScriptCommand) (a b d : Place) → left ≡ c ∷ rest → RunningAt commands left a b → Does (events_of c) b d None → RunningAt commands rest a d
running-on commands left rest c a b d is running does =
    over-more None _ _ _ a b d (λ x y z so_far all. running-one commands left rest c _ _ _ (sinks_in a) (sinks_in b) (sinks_in d) is so_far all) running does

running-part : (commands left rest : List ScriptCommand) (c : ScriptCommand) (stopped : Broken) (s t u : Session) (a b d : Sinks) → left ≡ c ∷ rest → Running commands left s t a b → Played (Some stopped) (events_of c t) t u b d
    → Played (Some stopped) (events_in commands s) s u a d
running-part commands left rest c stopped s t u a b d is running part =
    let more : List Event = events_in rest (after t (events_of c t)) in
    played-as (Some stopped) (running.events ++ (events_of c t ++ more)) (events_in commands s) s u a d (sym (events-more commands left rest c s t running.events is running.order))
    (played-more (Some stopped) running.events (events_of c t ++ more) s t u a b d running.all (played-front stopped (events_of c t) more t u b d part))

pub running-stops : (commands left rest : List ScriptCommand) (c : ScriptCommand) (stopped : Broken) (a b d : Place) → left ≡ c ∷ rest → RunningAt commands left a b → Does (events_of c) b d (Some stopped)
    → Does (events_in commands) a d (Some stopped)
running-stops commands left rest c stopped a b d is running does =
    over-more (Some stopped) _ _ _ a b d (λ x y z so_far part. running-part commands left rest c stopped _ _ _ (sinks_in a) (sinks_in b) (sinks_in d) is so_far part) running does

running-last : (commands left : List ScriptCommand) (s t : Session) (a b : Sinks) → left ≡ [] → Running commands left s t a b → AllDone (events_in commands s) s t a b
unfolding events_in
running-last commands left s t a b none running =
    subst (λ es. AllDone es s t a b) (sym (running.order ∙ (ap (λ cs. running.events ++ events_in cs t) none ∙ append-nil running.events))) running.all

pub running-ends : (commands left : List ScriptCommand) (a b : Place) → left ≡ [] → RunningAt commands left a b → Does (events_in commands) a b None
running-ends commands left a b none running = over-same None _ _ a b (λ x y so_far. running-last commands left _ _ (sinks_in a) (sinks_in b) none so_far) running

-- ---- texts that are not empty, and the commands that do no step

pub some-end : (end : End) → 0 < length (end_line end)
unfolding end_line
some-end (Exit code) = omega arith
some-end (Fault set fault) = omega arith
some-end Limit = omega arith

pub some-place : (count : ℕ) (file : Active) → 0 < length (at_line count file)
unfolding at_line
some-place count file = omega arith

some-answer : (b : Bool) → 0 < length (answer b)
some-answer true = omega arith
some-answer false = omega arith

some-crawl : (m : Machine) → 0 < length (crawl_of m)
unfolding crawl_of here_line
some-crawl m =
    let file : List ℕ = here_line m.active in
    let rest : List ℕ = caller_lines 1 (callers_of m.body) in
    let whole = length-append file rest in
    let here = length-append (place_of 0 m.active) (codes "\n") in
    omega (arith, whole, here)

-- the place of a machine that is the debugger's
pub told-place : (count : ℕ) (m n : Machine) (x y : Output) (stop : Option Broken) → m ≡ n → TellsTo (at_line count m.active) x y stop → TellsTo (at_line count n.active) x y stop
told-place count m n x y stop same told_to = subst (λ (k : Machine). TellsTo (at_line count k.active) x y stop) same told_to

-- an address was set, or not
set-event : (a : ℕ) (done : Bool) (t u : Trail) (around : Around) → done ≡ can_set (session_of t around) a → u ≡ record t { breaks = if done then t.breaks ++ a ∷ [] else t.breaks }
    → events_of (Break a) (session_of t around) ≡ tells (answer done) (session_of u around) ∷ []
set-event a done t u around exact is =
    ap (λ b. tells (answer b) (record (session_of t around) { breaks = if b then t.breaks ++ a ∷ [] else t.breaks }) ∷ []) (sym exact)
    ∙ ap (λ (v : Trail). tells (answer done) (session_of v around) ∷ []) (sym is)

pub does-set : (a : ℕ) (done : Bool) (t u : Trail) (o : Outside) (x y : Output) (stop : Option Broken) → done ≡ (not (list_any (λ b. b == a) t.breaks) && nat_lt (length t.breaks) 64)
    → u ≡ record t { breaks = if done then t.breaks ++ a ∷ [] else t.breaks } → TellsTo (answer done) x y stop → Does (events_of (Break a)) (place t o x) (place u o y) stop
does-set a done t u o x y stop exact is told_to =
    does-text (events_of (Break a)) stop (answer done) t u o x y (λ around. set-event a done t u around exact is) (some-answer done) told_to

clear-event : (a : ℕ) (done : Bool) (t u : Trail) (around : Around) → done ≡ is_set (session_of t around) a → u ≡ record t { breaks = filter (λ b. not (b == a)) t.breaks }
    → events_of (Clear a) (session_of t around) ≡ tells (answer done) (session_of u around) ∷ []
clear-event a done t u around exact is =
    ap (λ b. tells (answer b) (record (session_of t around) { breaks = filter (λ c. not (c == a)) t.breaks }) ∷ []) (sym exact)
    ∙ ap (λ (v : Trail). tells (answer done) (session_of v around) ∷ []) (sym is)

pub does-cleared : (a : ℕ) (done : Bool) (t u : Trail) (o : Outside) (x y : Output) (stop : Option Broken) → done ≡ list_any (λ b. b == a) t.breaks
    → u ≡ record t { breaks = filter (λ b. not (b == a)) t.breaks } → TellsTo (answer done) x y stop → Does (events_of (Clear a)) (place t o x) (place u o y) stop
does-cleared a done t u o x y stop exact is told_to =
    does-text (events_of (Clear a)) stop (answer done) t u o x y (λ around. clear-event a done t u around exact is) (some-answer done) told_to

crawl-event : (t : Trail) (around : Around) → events_of Where (session_of t around) ≡ tells (crawl_of t.machine) (session_of t around) ∷ []
unfolding crawl_of
crawl-event t around = refl

pub does-crawl : (t : Trail) (o : Outside) (x y : Output) (stop : Option Broken) → TellsTo (crawl_of t.machine) x y stop → Does (events_of Where) (place t o x) (place t o y) stop
does-crawl t o x y stop told_to = does-text (events_of Where) stop (crawl_of t.machine) t t o x y (crawl-event t) (some-crawl t.machine) told_to
