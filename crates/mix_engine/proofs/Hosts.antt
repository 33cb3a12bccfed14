-- A host call as a step of the machine.
use Rattle.std.proofs.Common.{◌≡◌, ℕ, ◌<◌, ◌≤◌, List, [], ◌++◌, length, take, Option, Some, arith, refl, sym, ap, ◌∙◌, subst}
use Rattle.std.specs.Io.KnownBytes.{Appends}
use Rattle.mix_bits.specs.declared.isa.Isa.{Isa}
use Rattle.mix_bits.specs.declared.fault.Fault.{Fault as AFault}
use Rattle.mix_io.specs.Counts.{Rose}
use Rattle.mix_io.specs.Streams.{Output, Grows, Breaks}
use Rattle.big_memory.specs.Memory.{Memory}
use Rattle.host_heap.specs.Space.{Space}
use Rattle.dev_rack.specs.declared.answers.Answer.{Answer}
use Rattle.switch_frame.specs.declared.active.Active.{Active}
use Rattle.switch_frame.specs.declared.active.Active.TheVariants.{M68, Ppc}
use Rattle.switch_frame.specs.Records.{isa_of}
use Rattle.call_trace.specs.Lines.{ask_line}
use Rattle.toolbox.specs.declared.values.Results.{Results}
use Rattle.toolbox.specs.declared.function.Function.{Function}
use Rattle.toolbox.specs.Functions.{function_at}
use Rattle.toolbox.specs.Effects.{Around, Ask, Effect, effect}
use Rattle.toolbox.specs.Effects.Effect.{Gives, Crosses as CrossesInto, Leaves as LeavesWith, Refuses}
use Rattle.toolbox.specs.Registers.{answered, operands_of}
use Rattle.toolbox.specs.Host.{Host, Hosted, host, settled}
use Rattle.toolbox.specs.Host.Hosted.{Goes as HostGoes, Crosses, Leaves, Stops}
use Rattle.toolbox.specs.Calls.{Outside, Took, answers_since}
use Rattle.toolbox.specs.CallsClauses.{Place, GoesOn, Stays, ReadBreaks, PutBreaks, Reads as HostReads, Says as HostSays, ask_of, goes_at, host_at, place, resources_at, with_around}
use Rattle.mixed_machine.specs.declared.body.Body.{Body}
use Rattle.mixed_machine.specs.declared.did.Did.TheVariants.{Next as IsNext, Exit, Fault, ReadFault, OutFault, TraceFault}
use Rattle.mixed_machine.specs.State.{State}
use Rattle.mixed_machine.specs.Next.{Next}
use Rattle.mixed_machine.specs.Next.Next.{Goes}
use Rattle.mixed_machine.specs.Exec.{Reads, said_of}
use Rattle.mixed_machine.specs.Host.{effects_of, host_of, hosted_by}
use Rattle.mixed_machine.specs.inner.Parts.{line_of_ask}
use Rattle.mixed_machine.specs.Machine.{IsWhole, flat}
use Rattle.mixed_machine.specs.OutsideClauses.{At, at}
use Rattle.toolbox.specs.Calls.{around_at}
use Rattle.mixed_machine.specs.RunsClauses.{sinks_of}
use Rattle.mixed_machine.specs.laws.Acts.{Acts, Done}
use Rattle.mix_engine.specs.laws.Laws.{AreLaws}
use Rattle.mix_engine.specs.Worlds.{KeepsTrace, Seen, TracesOnly}
use Rattle.mix_engine.specs.Beside.{machine_in}
use Rattle.mix_engine.proofs.Changed.{altered, changed, seen-is}
use Rattle.mixed_machine.proofs.Over.{told-none}
use Rattle.mix_engine.proofs.Over.{over-quiet, over-taken, some-took, told-kept}
use Rattle.mix_io.proofs.Streams.{grows-none}
use Rattle.mix_engine.proofs.Amid.{amid, done-by}
use Rattle.mix_engine.proofs.Doing.{does-exit, does-fault}

-- what a crossing does, in each state
abbrev pub Crossings : Type 0
Crossings = State → ℕ → ℕ → Next

-- the step of a host call
abbrev pub host_step : Crossings → ℕ → State → Next
host_step crossing index s = hosted_by (crossing s) s (host index (host_of s))

-- a call keeps the set
answered-keeps : (f : Function) (x : Results) (active : Active) → isa_of (answered f x active) ≡ isa_of active
answered-keeps f x (M68 r) = refl
answered-keeps f x (Ppc r) = refl

abbrev set_after : Isa → Hosted → Isa
set_after set (HostGoes h effects) = isa_of h.active
set_after set (Crosses pointer info) = set
set_after set (Leaves code) = set
set_after set (Stops fault) = set

settled-keeps : (f : Function) (active : Active) (e : Effect) → set_after (isa_of active) (settled f active e) ≡ isa_of active
settled-keeps f active (Gives r x effects) = answered-keeps f x active
settled-keeps f active (CrossesInto pointer info) = refl
settled-keeps f active (LeavesWith code) = refl
settled-keeps f active (Refuses access) = refl

host-keeps : (index : ℕ) (h : Host) → set_after (isa_of h.active) (host index h) ≡ isa_of h.active
unfolding host
host-keeps index h = settled-keeps (function_at index) h.active (effect (function_at index) (operands_of (function_at index) h.active) h.resources)

-- a line of an ask is not empty
asks-tell : (slot word : ℕ) (answer : Answer) → 0 < length (ask_line slot word answer)
unfolding ask_line
asks-tell slot word answer = omega arith

-- a host call sees RAM
host-is : AreLaws → (index : ℕ) (b : Body) (active : Active) (o : Outside) (around : Around) → IsWhole b (isa_of active)
    → host index (host_of (flat b active around)) ≡ host_at index active (with_around (place b.ram b.heap o) around)
host-is laws index b active o around whole =
    ap (λ m. host index (record { active = active; resources = record { memory = m; heap = b.heap; around = around } })) (seen-is laws b (isa_of active) whole)

-- a call that goes on keeps the set
goes-keeps : (index : ℕ) (asked : Option Ask) (before after : Active) (old new : Place) → GoesOn (host_at index before) (goes_at after) asked old new → isa_of after ≡ isa_of before
goes-keeps index asked before after old new goes =
    let took = some-took goes.taken in
    let from : Host = record { active = before; resources = resources_at old took.0 (answers_since old.outside.rack new.outside.rack ++ []) } in
    sym (ap (set_after (isa_of before)) (goes.does took.0 took.1 [] took.2)) ∙ host-keeps index from

-- it gives the state of the machine that it leaves
goes-to : AreLaws → (crossing : Crossings) (index : ℕ) (asked : Option Ask) (b : Body) (n : Memory) (h : Space) (before after : Active) (o p : Outside)
    → IsWhole b (isa_of before) → (goes : GoesOn (host_at index before) (goes_at after) asked (place b.ram b.heap o) (place n h p))
    → (input left : List ℕ) (rest : List (Option ℕ)) → Took goes.taken input left
    → host_step crossing index (flat b before (around_at o input (answers_since o.rack p.rack ++ rest))) ≡ Goes (flat (altered b n h) after (around_at p left rest)) (effects_of goes.effects)
goes-to laws crossing index asked b n h before after o p whole goes input left rest took =
    let around : Around = around_at o input (answers_since o.rack p.rack ++ rest) in
    let s : State = flat b before around in
    let state = (changed laws b n h (isa_of before) whole goes.free goes.bounds).state before after around (around_at p left rest) in
    ap (hosted_by (crossing s) s) (host-is laws index b before o around whole ∙ goes.does input left rest took)
    ∙ ap (λ u. Goes u (effects_of goes.effects)) (sym state)

-- a call that is done
pub went-on : AreLaws → (crossing : Crossings) (index : ℕ) (asked : Option Ask) (cell : AFault) (b : Body) (n : Memory) (h : Space) (before after : Active) (o p : Outside) (a t : Output)
    → IsWhole b (isa_of before) → GoesOn (host_at index before) (goes_at after) asked (place b.ram b.heap o) (place n h p) → Grows a t (line_of_ask asked)
    → Acts (host_step crossing index) IsNext cell (at b before o a) (at (altered b n h) after p t)
went-on laws crossing index asked cell b n h before after o p a t whole goes grows =
    let change = changed laws b n h (isa_of before) whole goes.free goes.bounds in
    record {
      whole = subst (IsWhole (altered b n h)) (sym (goes-keeps index asked before after (place b.ram b.heap o) (place n h p) goes)) change.whole;
      callers = change.callers;
      blames = record { input = goes.calm; out = goes.put.calm; trace = grows.calm };
      devices = goes.devices;
      step = over-taken (λ s u. Done (host_step crossing index s) IsNext cell s u (sinks_of (at b before o a)) (sinks_of (at (altered b n h) after p t)))
          (at b before o a) (at (altered b n h) after p t) goes.taken goes.told
          (λ input left rest took.
          let s : State = flat b before (around_at o input (answers_since o.rack p.rack ++ rest)) in
          let u : State = flat (altered b n h) after (around_at p left rest) in
          done-by (host_step crossing index s) (Goes u (effects_of goes.effects)) IsNext cell s u (sinks_of (at b before o a)) (sinks_of (at (altered b n h) after p t))
          (goes-to laws crossing index asked b n h before after o p whole goes input left rest took)
          (record { state = refl; put = record { out = goes.put; trace = subst (λ x. Grows a t (line_of_ask x)) (sym goes.ask) grows } }));
    }

-- a call that is done, at whose line the trace failed
pub went-untold : AreLaws → (crossing : Crossings) (index : ℕ) (asked : Option Ask) (cell : AFault) (b : Body) (n : Memory) (h : Space) (before after : Active) (o p : Outside) (a t : Output)
    → IsWhole b (isa_of before) → GoesOn (host_at index before) (goes_at after) asked (place b.ram b.heap o) (place n h p)
    → 0 < length (line_of_ask asked) → Breaks a t [] (line_of_ask asked)
    → Acts (host_step crossing index) TraceFault cell (at b before o a) (at (altered b n h) after p t)
went-untold laws crossing index asked cell b n h before after o p a t whole goes tells breaks =
    let change = changed laws b n h (isa_of before) whole goes.free goes.bounds in
    record {
      whole = subst (IsWhole (altered b n h)) (sym (goes-keeps index asked before after (place b.ram b.heap o) (place n h p) goes)) change.whole;
      callers = tt;
      blames = record { input = goes.calm; out = goes.put.calm; trace = breaks.rose };
      devices = goes.devices;
      step = over-taken (λ s u. Done (host_step crossing index s) TraceFault cell s u (sinks_of (at b before o a)) (sinks_of (at (altered b n h) after p t)))
          (at b before o a) (at (altered b n h) after p t) goes.taken goes.told
          (λ input left rest took.
          let s : State = flat b before (around_at o input (answers_since o.rack p.rack ++ rest)) in
          let u : State = flat (altered b n h) after (around_at p left rest) in
          done-by (host_step crossing index s) (Goes u (effects_of goes.effects)) TraceFault cell s u (sinks_of (at b before o a)) (sinks_of (at (altered b n h) after p t))
          (goes-to laws crossing index asked b n h before after o p whole goes input left rest took)
          (record {
            state = (refl, subst (λ x. 0 < length (line_of_ask x)) (sym goes.ask) tells);
            put = record { out = goes.put; trace = subst (λ x. Breaks a t [] (line_of_ask x)) (sym goes.ask) breaks };
          }));
    }

-- the trace took the line of an ask, or a part of it
put-ask : (slot word : ℕ) (answer : Answer) (a t : Output) → Appends a.held t.held (ask_line slot word answer) → t.faults ≡ a.faults → Grows a t (line_of_ask (Some (ask_of slot word answer)))
put-ask slot word answer a t taken calm = record { taken = taken; calm = calm }

broke-ask : (slot word : ℕ) (answer : Answer) (a t : Output)
    → (k : ℕ) × (k ≤ length (ask_line slot word answer)) × Appends a.held t.held (take k (ask_line slot word answer)) → Rose a.faults t.faults
    → Breaks a t [] (line_of_ask (Some (ask_of slot word answer)))
broke-ask slot word answer a t puts rose = record { kept = puts.0; within = puts.1; taken = puts.2; rose = rose }

-- nothing was put on an equal trace
pub grows-same : (a t : Output) → t ≡ a → Grows a t []
grows-same a t same = subst (λ y. Grows a y []) (sym same) (grows-none a)

-- a call that asked, and whose line the trace took or failed at
pub asked-on : AreLaws → (crossing : Crossings) (index slot word : ℕ) (answer : Answer) (cell : AFault) (b : Body) (n : Memory) (h : Space) (before after : Active) (a mid t : Seen)
    → IsWhole b (isa_of before) → GoesOn (host_at index before) (goes_at after) (Some (ask_of slot word answer)) (place b.ram b.heap a.outside) (place n h mid.outside)
    → KeepsTrace a mid → Appends mid.trace.held t.trace.held (ask_line slot word answer) → t.trace.faults ≡ mid.trace.faults → TracesOnly mid t
    → Acts (host_step crossing index) IsNext cell (machine_in b before a) (machine_in (altered b n h) after t)
asked-on laws crossing index slot word answer cell b n h before after a mid t whole goes keeps puts calm rest =
    subst (λ p. Acts (host_step crossing index) IsNext cell (machine_in b before a) (at (altered b n h) after p t.trace)) (sym rest.outside)
    (went-on laws crossing index (Some (ask_of slot word answer)) cell b n h before after a.outside mid.outside a.trace t.trace whole goes
    (subst (λ o. Grows o t.trace (line_of_ask (Some (ask_of slot word answer)))) keeps.trace (put-ask slot word answer mid.trace t.trace puts calm)))

pub asked-untold : AreLaws → (crossing : Crossings) (index slot word : ℕ) (answer : Answer) (cell : AFault) (b : Body) (n : Memory) (h : Space) (before after : Active) (a mid t : Seen)
    → IsWhole b (isa_of before) → GoesOn (host_at index before) (goes_at after) (Some (ask_of slot word answer)) (place b.ram b.heap a.outside) (place n h mid.outside)
    → KeepsTrace a mid → (k : ℕ) × (k ≤ length (ask_line slot word answer)) × Appends mid.trace.held t.trace.held (take k (ask_line slot word answer))
    → Rose mid.trace.faults t.trace.faults → TracesOnly mid t
    → Acts (host_step crossing index) TraceFault cell (machine_in b before a) (machine_in (altered b n h) after t)
asked-untold laws crossing index slot word answer cell b n h before after a mid t whole goes keeps puts rose rest =
    subst (λ p. Acts (host_step crossing index) TraceFault cell (machine_in b before a) (at (altered b n h) after p t.trace)) (sym rest.outside)
    (went-untold laws crossing index (Some (ask_of slot word answer)) cell b n h before after a.outside mid.outside a.trace t.trace whole goes (asks-tell slot word answer)
    (subst (λ o. Breaks o t.trace [] (line_of_ask (Some (ask_of slot word answer)))) keeps.trace (broke-ask slot word answer mid.trace t.trace puts rose)))

-- a claim of a machine on which a call has changed nothing
stays-at : (P : At → Type 0) (b : Body) (n : Memory) (h : Space) (before after : Active) (o p q : Outside) (a t : Output)
    → place n h p ≡ place b.ram b.heap q → after ≡ before → t ≡ a → P (at b before q a) → P (at (altered b n h) after p t)
stays-at P b n h before after o p q a t same active trace holds =
    subst (λ w. P (at (altered b n h) w p t)) (sym active) (subst (λ x. P (at (altered b x.memory x.heap) before x.outside t)) (sym same) (subst (λ y. P (at b before q y)) (sym trace) holds))

-- the program ends
pub exited : AreLaws → (crossing : Crossings) (index code : ℕ) (cell : AFault) (b : Body) (n : Memory) (h : Space) (before after : Active) (o p : Outside) (a t : Output)
    → IsWhole b (isa_of before) → Stays (host_at index before) (Leaves code) (place b.ram b.heap o) (place n h p) → after ≡ before → t ≡ a
    → Acts (host_step crossing index) (Exit code) cell (at b before o a) (at (altered b n h) after p t)
exited laws crossing index code cell b n h before after o p a t whole stays active trace =
    stays-at (λ z. Acts (host_step crossing index) (Exit code) cell (at b before o a) z) b n h before after o p o a t stays.same active trace
    (amid laws (host_step crossing index) (Exit code) cell b b before before o a a
    (does-exit grows-none (host_step crossing index) code cell b before a whole
    (λ around. ap (hosted_by (crossing (flat b before around)) (flat b before around)) (host-is laws index b before o around whole ∙ stays.does around))))

-- the call is refused an access
pub refused : AreLaws → (crossing : Crossings) (index : ℕ) (cell : AFault) (b : Body) (n : Memory) (h : Space) (before after : Active) (o p : Outside) (a t : Output)
    → IsWhole b (isa_of before) → Stays (host_at index before) (Stops cell) (place b.ram b.heap o) (place n h p) → after ≡ before → t ≡ a
    → Acts (host_step crossing index) Fault cell (at b before o a) (at (altered b n h) after p t)
refused laws crossing index cell b n h before after o p a t whole stays active trace =
    stays-at (λ z. Acts (host_step crossing index) Fault cell (at b before o a) z) b n h before after o p o a t stays.same active trace
    (amid laws (host_step crossing index) Fault cell b b before before o a a
    (does-fault grows-none (host_step crossing index) cell b before a whole
    (λ around. ap (hosted_by (crossing (flat b before around)) (flat b before around)) (host-is laws index b before o around whole ∙ stays.does around))))

-- the call crosses
pub crossed : AreLaws → (index pointer info : ℕ) (b : Body) (n : Memory) (h : Space) (before after : Active) (o p : Outside) (a t : Output)
    → IsWhole b (isa_of before) → Stays (host_at index before) (Crosses pointer info) (place b.ram b.heap o) (place n h p) → after ≡ before → t ≡ a
    → ((around : Around) → host index (host_of (flat b before around)) ≡ Crosses pointer info) × (at (altered b n h) after p t ≡ at b before o a)
crossed laws index pointer info b n h before after o p a t whole stays active trace = (
  λ around. host-is laws index b before o around whole ∙ stays.does around,
  stays-at (λ z. z ≡ at b before o a) b n h before after o p o a t stays.same active trace refl,
)

-- the input failed
reads-of : (crossing : ℕ → ℕ → Next) (s : State) (h : Hosted) → HostReads h → Reads (hosted_by crossing s h)
reads-of crossing s (HostGoes h effects) reads = reads
reads-of crossing s (Crosses pointer info) reads = absurd reads
reads-of crossing s (Leaves code) reads = absurd reads
reads-of crossing s (Stops fault) reads = absurd reads

pub read-broke : AreLaws → (crossing : Crossings) (index : ℕ) (cell : AFault) (b : Body) (n : Memory) (h : Space) (before after : Active) (o p : Outside) (a t : Output)
    → IsWhole b (isa_of before) → ReadBreaks (host_at index before) HostReads (place b.ram b.heap o) (place n h p) → after ≡ before → t ≡ a
    → Acts (host_step crossing index) ReadFault cell (at b before o a) (at (altered b n h) after p t)
read-broke laws crossing index cell b n h before after o p a t whole breaks active trace =
    let q : Outside = record o { input = p.input } in
    stays-at (λ z. Acts (host_step crossing index) ReadFault cell (at b before o a) z) b n h before after o p q a t breaks.same active trace
    (record {
      whole = whole;
      callers = refl;
      blames = record { input = breaks.rose; out = refl; trace = refl };
      devices = laws.accounts o.rack;
      step = over-quiet (λ s u. Done (host_step crossing index s) ReadFault cell s u (sinks_of (at b before o a)) (sinks_of (at b before q a)))
          (at b before o a) (at b before q a) refl (told-kept o.input.left p.input.left breaks.kept)
          (λ input answers.
          let around : Around = around_at o input answers in
          let s : State = flat b before around in
          record {
            state = (reads-of (crossing s) s (host index (host_of s)) (subst HostReads (sym (host-is laws index b before o around whole)) (breaks.does around)), refl);
            put = record { out = grows-none o.out; trace = grows-none a };
          });
    })

-- the output failed
says-of : (crossing : ℕ → ℕ → Next) (s : State) (piece : List ℕ) (h : Hosted) → HostSays piece h → said_of (hosted_by crossing s h) ≡ piece
says-of crossing s piece (HostGoes h effects) says = says
says-of crossing s piece (Crosses pointer info) says = absurd says
says-of crossing s piece (Leaves code) says = absurd says
says-of crossing s piece (Stops fault) says = absurd says

pub put-broke : AreLaws → (crossing : Crossings) (index : ℕ) (cell : AFault) (b : Body) (n : Memory) (h : Space) (before after : Active) (o p : Outside) (a t : Output)
    → IsWhole b (isa_of before) → PutBreaks (host_at index before) HostSays (place b.ram b.heap o) (place n h p) → after ≡ before → t ≡ a
    → Acts (host_step crossing index) OutFault cell (at b before o a) (at (altered b n h) after p t)
put-broke laws crossing index cell b n h before after o p a t whole breaks active trace =
    let q : Outside = record o { out = p.out } in
    stays-at (λ z. Acts (host_step crossing index) OutFault cell (at b before o a) z) b n h before after o p q a t breaks.same active trace
    (record {
      whole = whole;
      callers = refl;
      blames = record { input = refl; out = breaks.broke.rose; trace = refl };
      devices = laws.accounts o.rack;
      step = over-quiet (λ s u. Done (host_step crossing index s) OutFault cell s u (sinks_of (at b before o a)) (sinks_of (at b before q a)))
          (at b before o a) (at b before q a) refl (told-none o.input.left)
          (λ input answers.
          let around : Around = around_at o input answers in
          let s : State = flat b before around in
          let says : said_of (host_step crossing index s) ≡ breaks.piece =
          says-of (crossing s) s breaks.piece (host index (host_of s)) (subst (HostSays breaks.piece) (sym (host-is laws index b before o around whole)) (breaks.does around)) in
          record {
            state = (subst (λ piece. 0 < length piece) (sym says) breaks.some, refl);
            put = record { out = subst (λ piece. Breaks o.out p.out [] piece) (sym says) breaks.broke; trace = grows-none a };
          });
    })
