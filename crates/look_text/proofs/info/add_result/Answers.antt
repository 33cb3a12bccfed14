-- The line of a result that has a size.
use Rattle.std.proofs.Common.{◌≡◌, ℕ, List, [], ◌∷◌, ◌++◌, Result, codes, refl}
use Rattle.std.specs.Prelude.{OnOk}
use Rattle.mix_bits.specs.declared.size.Size.{Size}
use Rattle.mix_bits.specs.declared.size.Size.TheVariants.{Zero, One, Two, Four}
use Rattle.proc_info.specs.Routes.{route_of}
use Rattle.args_m68.specs.Places.{result_place}
use Rattle.args_m68.specs.declared.places.Place.{Place}
use Rattle.look_text.specs.Info.{sized_result}
use Rattle.look_text.specs.Pieces.{joined}
use Rattle.look_text.specs.Places.{place_text}
use Rattle.look_text.specs.Words.{size_name}
use Rattle.look_text.proofs.info.add_result.Goals as goal

-- the name of the size and the place are those of the line
told : {T E : Type 0} (r : Result T E) (new old name : List ℕ) (size : Size) (place is : Place) → name ≡ size_name size → place ≡ is → (size ≡ Zero → ⊥)
    → OnOk r (new ≡ old ++ joined (codes "result: " ∷ name ∷ codes ", 68K " ∷ place_text place ∷ codes " behind the return, PowerPC r3\n" ∷ []))
    → OnOk r (new ≡ old ++ sized_result size is)
told r new old name Zero place is named placed some put = absurd (some refl)
told r new old name One place is named placed some put = rw (named, placed) at put
told r new old name Two place is named placed some put = rw (named, placed) at put
told r new old name Four place is named placed some put = rw (named, placed) at put

pub returns-in_default : goal.returns-in_default
returns-in_default c =
    let named : c.size_name.result.now ≡ size_name c.args.sig.now.result = cc c.size_name.ensures in
    let placed : c.result_place.result ≡ result_place (route_of c.args.sig.now.conv) c.args.sig.now.place = rw c.route.ensures at c.result_place.ensures.place in
    told c.add_line.result c.add_line.new.text.items c.args.text.now.items c.size_name.result.now c.args.sig.now.result
    c.result_place.result _ named placed c.in_default.not-Zero c.add_line.ensures
