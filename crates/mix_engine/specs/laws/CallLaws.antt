-- The laws of the crates below that calls and returns stand on, beside those of every step.
use Rattle.mix_io.specs.laws.Streams.{NothingGrows}
use Rattle.big_memory.specs.laws.PutLaws.{PutKeepsLength, PutReadsBeside, PutJoins}
use Rattle.mode_switch.specs.laws.Laws.{FillsItsStack}
use Rattle.switch_frame.specs.laws.FrameLaws.{LengthZeros, PlaceByLength, RoomIsPlace, TopIsZero, FirstIsHeld}

pub record AreCallLaws : Type 0 where
  pub grows : NothingGrows
  pub put_length : PutKeepsLength
  pub put_beside : PutReadsBeside
  pub put_joins : PutJoins
  pub stacks : FillsItsStack
  pub zeros : LengthZeros
  pub places : PlaceByLength
  pub rooms : RoomIsPlace
  pub top : TopIsZero
  pub first : FirstIsHeld
