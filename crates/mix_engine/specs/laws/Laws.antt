-- The laws of the crates below that the steps stand on.
use Rattle.big_memory.specs.laws.Laws.{NothingIsFree, FreeKeepsRam, FreeKeepsPage, StoresAreFree}
use Rattle.switch_frame.specs.laws.Laws.{ReadsBack, KeepsLength, StoresBeside, SeenIsMemory, FreeKeepsChain, LowIsMemory, PlacesAreFree}
use Rattle.dev_rack.specs.Rack.{State as Rack}
use Rattle.dev_rack.specs.Accounts.{Accounts}

pub record AreLaws : Type 0 where
  pub nothing : NothingIsFree
  pub ram : FreeKeepsRam
  pub page : FreeKeepsPage
  pub stores : StoresAreFree
  pub reads_back : ReadsBack
  pub length : KeepsLength
  pub beside : StoresBeside
  pub sees : SeenIsMemory
  pub keeps : FreeKeepsChain
  pub low : LowIsMemory
  pub places : PlacesAreFree
  pub accounts : (s : Rack) → Accounts s s
