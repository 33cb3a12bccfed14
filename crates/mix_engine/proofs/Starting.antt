-- A machine at the start of a program is whole, and stands for the program's start.
use Rattle.std.proofs.Common.{◌≡◌, ℕ, List, [], sym, ap, subst, ◌∙◌}
use Rattle.switch_frame.specs.declared.program.Program.{Program}
use Rattle.switch_frame.specs.Chain.{Chain, cleared}
use Rattle.switch_frame.specs.Program.{HasGatePage, HasHeap}
use Rattle.switch_frame.specs.ProgramClauses.{IsProgram}
use Rattle.switch_frame.specs.Records.{Record, isa_of}
use Rattle.switch_frame.proofs.Linked.{begins_empty, reads_back}
use Rattle.host_heap.specs.Space.{Space}
use Rattle.toolbox.specs.Effects.{Around}
use Rattle.mixed_machine.specs.declared.body.Body.{Body}
use Rattle.mixed_machine.specs.Machine.{IsWhole, callers_of, flat, memory_of}
use Rattle.switch_frame.specs.Calls.{IsOutermost, active_set}
use Rattle.mixed_machine.specs.State.{State}
use Rattle.mix_engine.specs.Start.{start_of}

abbrev pub body_of : Program → Space → Body
body_of p heap = record { ram = p.ram; heap = heap; top = 0; a5 = p.a5; main = p.main; start_sp = p.start_sp }

abbrev pub empty_heap : Program → Space
empty_heap p = record { low = p.heap_lo; high = p.heap_hi; blocks = [] }

pub record IsStarted (p : Program) (b : Body) : Type 0 where
  pub whole : IsWhole b (isa_of p.active)
  pub state : (around : Around) → flat b p.active around ≡ start_of p around

abbrev state_at : Program → Space → Around → List ℕ → List Record → State
state_at p heap around memory callers =
    record { memory = memory; active = p.active; callers = callers; heap = heap; around = around; main = p.main; a5 = p.a5; start_sp = p.start_sp }

pub started : (p : Program) (heap : Space) → IsProgram p → heap ≡ empty_heap p → IsStarted p (body_of p heap)
unfolding callers_of memory_of
started p heap program is =
    let b : Body = body_of p heap in
    let chain : Chain p.ram 0 [] = begins_empty p.ram program.ram program.unguarded in
    let callers : callers_of b ≡ [] = reads_back p.ram 0 [] chain.links in
    let memory : memory_of b ≡ p.ram.bytes = ap (λ rs. cleared p.ram.bytes rs) callers in
    record {
      whole = record {
        chain = subst (Chain p.ram 0) (sym callers) chain;
        active = program.set ∙ ap (active_set p.main) (sym callers);
        outermost = subst (IsOutermost p.main) (sym callers) tt;
        page = subst (HasGatePage p.a5) (sym memory) program.page;
        start = program.start;
        heap = subst (λ h. HasHeap h.low h.high p.ram) (sym is) program.heap;
      };
      state = λ around.
          ap (λ m. state_at p heap around m (callers_of b)) memory
          ∙ (ap (state_at p heap around p.ram.bytes) callers
          ∙ ap (λ h. state_at p h around p.ram.bytes []) is);
    }
