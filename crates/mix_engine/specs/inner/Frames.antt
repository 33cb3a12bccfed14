-- A machine while a caller is suspended, and once it goes on.
use Rattle.std.specs.Prelude.{◌≡◌, ℕ, ◌-◌, ◌∷◌, ◌++◌, List}
use Rattle.mix_bits.specs.declared.isa.Isa.{Isa}
use Rattle.big_memory.specs.Lists.{put}
use Rattle.switch_frame.specs.declared.active.Active.{Active}
use Rattle.switch_frame.specs.declared.held.Held.{Held}
use Rattle.switch_frame.specs.declared.kind.Kind.{Kind}
use Rattle.switch_frame.specs.Records.{Record, isa_of}
use Rattle.switch_frame.specs.RecordsClauses.{record_of}
use Rattle.switch_frame.specs.Sets.{callee_isa}
use Rattle.big_memory.specs.Lists.{zeros}
use Rattle.switch_frame.specs.CallsClauses.{IsPlace}
use Rattle.mode_switch.specs.Wanted.{Crossing, passed_selector}
use Rattle.mode_switch.specs.Passed.{Passage}
use Rattle.mode_switch.specs.Callee.{fresh, stack_of}
use Rattle.mixed_machine.specs.declared.body.Body.{Body}
use Rattle.mixed_machine.specs.Enter.{sp_in, suspended}
use Rattle.mixed_machine.specs.Machine.{IsWhole, callers_of, memory_of}

-- a callee's stack stands below the place of a frame, and nothing else has changed
pub record IsReady (b new : Body) (set : Isa) (kind : Kind) (lo hi sp : ℕ) (stack : List ℕ) : Type 0 where
  pub whole : IsWhole new set
  pub place : IsPlace new.ram (callers_of new) kind lo hi
  pub callers : callers_of new ≡ callers_of b
  pub memory : memory_of new ≡ put sp stack (memory_of b)
  pub rest : new ≡ record b { ram = new.ram }

-- one more caller is suspended
pub record IsSuspended (b new : Body) (held : Held) : Type 0 where
  pub whole : IsWhole new (callee_isa held.kind)
  pub callers : callers_of new ≡ record_of held ∷ callers_of b
  pub memory : memory_of new ≡ put held.lo (zeros (held.hi - held.lo)) (memory_of b)
  pub rest : new ≡ record b { ram = new.ram; top = new.top }

-- the innermost caller goes on
pub record IsResumed (b new : Body) (r : Record) : Type 0 where
  pub whole : IsWhole new (isa_of r.caller)
  pub callers : callers_of b ≡ r ∷ callers_of new
  pub memory : memory_of new ≡ memory_of b
  pub rest : new ≡ record b { ram = new.ram; top = new.top }

-- a callee has started: its caller is suspended, and its stack stands below the frame
pub record IsEntered (b new : Body) (file : Active) (c : Crossing) (range : ℕ × ℕ) (p : Passage) : Type 0 where
  pub whole : IsWhole new (isa_of file)
  pub callers : callers_of new ≡ suspended c range p ∷ callers_of b
  pub memory : memory_of new ≡ put (sp_in c range) (stack_of (callee_isa c.kind) c.sig (passed_selector c) p.args ++ zeros (range.1 - range.0)) (memory_of b)
  pub file_is : file ≡ fresh (callee_isa c.kind) c.sig (passed_selector c) p.args (sp_in c range) p.entry
  pub rest : new ≡ record b { ram = new.ram; top = new.top }
