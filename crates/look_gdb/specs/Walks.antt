-- What gdb's requests do to a run: walks forward and back, and points to stop at.
use Rattle.std.specs.Prelude.{◌≡◌, ℕ, ◌-◌, ◌^◌, ◌==◌, ◌&&◌, ◌||◌, min, nat_le, nat_lt, not, filter, length, Bool, true, false, List, [], ◌∷◌, ◌++◌, Option, Some, None, if◌then◌else◌}
use Rattle.mix_io.specs.Streams.{Output}
use Rattle.mix_io.specs.StreamsClauses.{output}
use Rattle.dev_rack.specs.Accounts.{Accounts}
use Rattle.switch_frame.specs.Records.{isa_of}
use Rattle.gdb_requests.specs.declared.request.Point.{Point}
use Rattle.gdb_requests.specs.declared.request.Point.TheVariants.{Software, Hardware, Write}
use Rattle.gdb_session.specs.declared.target.Halt.{Halt}
use Rattle.gdb_steps.specs.Places.{Begin, IsRun, Run}
use Rattle.gdb_steps.specs.Points.{Points, Range, is_same_range}
use Rattle.gdb_steps.specs.Walkers.{sinks}
use Rattle.gdb_steps.specs.WalkersClauses.{Backs}
use Rattle.gdb_steps.specs.Walks.{Forward}
use Rattle.gdb_steps.specs.declared.halt.Halt.{Halt as Came}
use Rattle.gdb_steps.specs.declared.halt.Until.{Until}
use Rattle.gdb_talk.specs.declared.deed.Walk.{Walk as Way}
use Rattle.look_gdb.specs.Halts.{halt_of, is_cut, is_end, steps_of, until_of}
use Rattle.look_gdb.specs.Notes.{note_of}
use Rattle.look_gdb.specs.Views.{View}

-- the bytes that an output tells
abbrev pub bytes_put : Option (List ℕ) → List ℕ
bytes_put None = []
bytes_put (Some bytes) = bytes

-- an output without a byte, whose bytes are told or not
abbrev pub empty : Bool → Output
empty told = output (if told then Some [] else None) 0

-- a walk forward: what its steps put when they are done for the first time comes to the console, the program's output in
-- front of the lines of its trace
pub record GoesOn (p : Points) (until : Until) (n : ℕ) (came : Came) (traced : Bool) (console : List ℕ) (r s : Run) : Type 0 where
  pub out : Output
  pub trace : Output
  pub walks : (b : Begin) → IsRun b r → Forward b p until (min n (2 ^ 64 - 1 - r.steps)) came r s (sinks (empty true) (empty traced)) (sinks out trace)
  pub devices : Accounts r.rack s.rack
  pub tells : console ≡ bytes_put out.held ++ bytes_put trace.held

-- a walk back, at which nothing is put and no device is asked
pub record GoesBack (p : Points) (until : Until) (n : ℕ) (came : Came) (console : List ℕ) (r s : Run) : Type 0 where
  pub walks : (b : Begin) → IsRun b r → Backs b p until n came r s
  pub devices : s.rack ≡ r.rack
  pub tells : console ≡ []

-- a walk back or forward, of so many steps at most, up to what is set to stop at
abbrev pub Goes : Bool → Until → ℕ → Came → List ℕ → View → View → Type 0
Goes true until n came console v w = GoesBack v.points until n came console v.run w.run
Goes false until n came console v w = GoesOn v.points until n came v.is_traced console v.run w.run

-- a walk of gdb's: it leaves the points and all else that is agreed, and tells the end of the program once
pub record Walks (v : View) (way : Way) (console : List ℕ) (halt : Halt) (w : View) : Type 0 where
  pub came : Came
  pub put : List ℕ
  pub goes : Goes way.is_back (until_of way.goal) (steps_of way.goal v.budget) came put v w
  pub whole : is_cut came ≡ false
  pub stops : halt ≡ halt_of way.goal came
  pub tells : console ≡ put ++ note_of v.is_end_told (isa_of w.run.here.machine.active) way.goal v.budget came
  pub same : w ≡ record v { run = w.run; most_kept = w.most_kept; is_end_told = v.is_end_told || is_end came }

-- the other addresses and ranges
abbrev pub other_breaks : Points → ℕ → List ℕ
other_breaks p a = filter (λ b. not (b == a)) p.breaks

abbrev pub range : ℕ → ℕ → Range
range a count = record { at = a; count = count }

abbrev pub other_watches : Points → ℕ → ℕ → List Range
other_watches p a count = filter (λ r. not (is_same_range (range a count) r)) p.watches

-- without a point
abbrev pub without : Point → ℕ → ℕ → Points → Points
without Software a count p = record p { breaks = other_breaks p a }
without Hardware a count p = record p { breaks = other_breaks p a }
without Write a count p = record p { watches = other_watches p a count }

-- with it, behind all others
abbrev pub with_point : Point → ℕ → ℕ → Points → Points
with_point Software a count p = record p { breaks = p.breaks ++ a ∷ [] }
with_point Hardware a count p = record p { breaks = p.breaks ++ a ∷ [] }
with_point Write a count p = record p { watches = p.watches ++ range a count ∷ [] }

-- there is room for a point beside others: 256 addresses, and 16 ranges of 1 to 64 bytes
abbrev pub has_room : Point → ℕ → Points → Bool
has_room Software count p = nat_lt (length p.breaks) 256
has_room Hardware count p = nat_lt (length p.breaks) 256
has_room Write count p = nat_le 1 count && (nat_le count 64 && nat_lt (length p.watches) 16)

-- a point is set, or not, for want of room; where it was set it is set anew
abbrev pub Inserts : View → Point → ℕ → ℕ → Bool → View → Type 0
Inserts v point a count set w =
    let others = without point a count v.points in
    (set ≡ has_room point count others)
    × (w ≡ record v { points = if set then with_point point a count others else others })

abbrev pub Removes : View → Point → ℕ → ℕ → View → Type 0
Removes v point a count w = w ≡ record v { points = without point a count v.points }
