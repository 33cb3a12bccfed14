-- What a function of the library does, over its operands.
use Rattle.std.specs.Prelude.{◌≡◌, ℕ, List, Bool, true, Some, None}
use Rattle.toolbox.specs.declared.values.Operands.{Operands}
use Rattle.toolbox.specs.declared.values.Results.{Results}
use Rattle.toolbox.specs.declared.function.Function.{Function}
use Rattle.toolbox.specs.declared.outcome.Outcome.{Outcome}
use Rattle.toolbox.specs.declared.outcome.Outcome.TheVariants.{Given, Asked, Crossed, Left, Refused, ReadFault, OutFault}
use Rattle.big_memory.specs.laws.Laws.{NothingIsFree, StoresAreFree, CopiesAreFree}
use Rattle.dev_rack.specs.declared.answers.Answer.{Answer}
use Rattle.dev_rack.specs.Rack.{State}
use Rattle.dev_rack.specs.RackClauses.{Asks, Ejects}
use Rattle.dev_rack.specs.Accounts.{Accounts}
use Rattle.toolbox.specs.Effects.{Resources, Effects, Effect, effect, quiet, results_of}
use Rattle.toolbox.specs.Effects.Effect.{Gives, Crosses, Leaves, Refuses}
use Rattle.toolbox.specs.CallsClauses.{Place, GoesOn, Stays, ReadBreaks, PutBreaks, ask_of}

abbrev pub gives : Results → Resources → Effects → Effect
gives results r effects = Gives r results effects

abbrev pub ReadsInput : Effect → Type 0
ReadsInput (Gives r results effects) = effects.reads ≡ true
ReadsInput (Crosses pointer info) = ⊥
ReadsInput (Leaves code) = ⊥
ReadsInput (Refuses access) = ⊥

abbrev pub SaysPiece : List ℕ → Effect → Type 0
SaysPiece piece (Gives r results effects) = effects.said ≡ piece
SaysPiece piece (Crosses pointer info) = ⊥
SaysPiece piece (Leaves code) = ⊥
SaysPiece piece (Refuses access) = ⊥

abbrev pub Performs : Function → Operands → Outcome → Place → Place → Type 0
Performs f o (Given results) old new = GoesOn (effect f o) (gives results) None old new
Performs f o (Asked slot word answer) old new = GoesOn (effect f o) (gives (results_of answer)) (Some (ask_of slot word answer)) old new
Performs f o (Crossed pointer info) old new = Stays (effect f o) (Crosses pointer info) old new
Performs f o (Left code) old new = Stays (effect f o) (Leaves code) old new
Performs f o (Refused access) old new = Stays (effect f o) (Refuses access) old new
Performs f o ReadFault old new = ReadBreaks (effect f o) ReadsInput old new
Performs f o OutFault old new = PutBreaks (effect f o) SaysPiece old new

-- results are given, and nothing is seen of it from outside
abbrev pub Quietly : Results → Resources → Effect → Type 0
Quietly results r x = x ≡ Gives r results quiet

-- the laws of the crates below that are used
pub record AreLaws : Type 0 where
  pub nothing : NothingIsFree
  pub stores : StoresAreFree
  pub copies : CopiesAreFree
  pub begins : (s : State) → Accounts s s
  pub asks : (old new : State) (slot word : ℕ) (answer : Answer) → Asks old slot word answer new → Accounts old new
  pub ejects : (old new : State) (slot : ℕ) (held : Bool) → Ejects old slot held new → Accounts old new
