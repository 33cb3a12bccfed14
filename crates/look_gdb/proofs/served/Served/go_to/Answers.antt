use Rattle.std.proofs.Common.{◌≡◌, ℕ, Bool, true, false, ◌||◌, List, ◌++◌, Result, Ok, Err, sym, ap, ◌∙◌, subst}
use Rattle.std.specs.Prelude.{OnOk, min, nat_lt}
use Rattle.std.specs.Int.{abs_diff}
use Rattle.mix_engine.specs.declared.machine.Machine.{Machine}
use Rattle.gdb_steps.specs.declared.halt.Halt.{Halt as Came}
use Rattle.gdb_steps.specs.declared.halt.Until.TheVariants.{Stopped}
use Rattle.gdb_talk.specs.declared.deed.Goal.TheVariants as Goals
use Rattle.switch_frame.specs.Records.{isa_of}
use Rattle.look_gdb.specs.Commands.{GoesTo, flush_text, tale_text}
use Rattle.look_gdb.specs.Halts.{is_cut, is_end}
use Rattle.look_gdb.specs.Notes.{note_of}
use Rattle.look_gdb.specs.Views.{View}
use Rattle.look_gdb.specs.Walks.{Goes, GoesBack, GoesOn}
use Rattle.look_gdb.specs.declared.command.Tale.TheVariants.{Where}
use Rattle.look_gdb.proofs.served.Served.go_to.Goals as goal

-- where a walk ends is a matter of its run alone
same-run : (is_back : Bool) (n : ℕ) (came : Came) (put : List ℕ) (v w x : View) → w.run ≡ x.run → Goes is_back Stopped n came put v w → Goes is_back Stopped n came put v x
same-run true n came put v w x same goes = subst (λ r. GoesBack v.points Stopped n came put v.run r) same goes
same-run false n came put v w x same goes = subst (λ r. GoesOn v.points Stopped n came v.is_traced put v.run r) same goes

-- the same bounds
same-bounds : (b d : Bool) (n m : ℕ) (came : Came) (put : List ℕ) (v w : View) → b ≡ d → n ≡ m → Goes b Stopped n came put v w → Goes d Stopped m came put v w
same-bounds b d n m came put v w way bound goes = subst (λ x. Goes x Stopped m came put v w) way (subst (λ x. Goes b Stopped x came put v w) bound goes)

-- the same place
same-place : {T E : Type 0} (m n : Machine) (a b : ℕ) (text console : List ℕ) (r : Result T E) → m ≡ n → a ≡ b
    → OnOk r (console ≡ text ++ tale_text Where m a ++ flush_text) → OnOk r (console ≡ text ++ tale_text Where n b ++ flush_text)
same-place m n a b text console r there behind told =
    subst (λ x. OnOk r (console ≡ text ++ tale_text Where x b ++ flush_text)) there (subst (λ x. OnOk r (console ≡ text ++ tale_text Where m x ++ flush_text)) behind told)

-- a walk, the note of its end, and the place where it came
goes-to : {T E : Type 0} (v mid w : View) (steps : ℕ) (came : Came) (put text console : List ℕ) (r : Result T E)
    → Goes (nat_lt steps v.run.steps) Stopped (min (abs_diff v.run.steps steps) v.budget) came put v mid → mid ≡ record v { run = mid.run; most_kept = mid.most_kept }
    → is_cut came ≡ false → text ≡ put ++ note_of mid.is_end_told (isa_of mid.run.here.machine.active) Goals.Step mid.budget came
    → w ≡ record mid { is_end_told = mid.is_end_told || is_end came }
    → OnOk r (console ≡ text ++ tale_text Where w.run.here.machine w.run.steps ++ flush_text) → OnOk r (GoesTo v steps console w)
goes-to v mid w steps came put text console (Ok done) goes kept whole noted ended told =
    let noting : View → View = λ x. record x { is_end_told = v.is_end_told || is_end came } in
    let after : w ≡ noting mid = ended ∙ ap (λ (x : View). record mid { is_end_told = x.is_end_told || is_end came }) kept in
    subst (λ x. GoesTo v steps console x) (sym after)
    record {
      came = came;
      put = put;
      goes = same-run (nat_lt steps v.run.steps) (min (abs_diff v.run.steps steps) v.budget) came put v mid (noting mid) (λ i. mid.run) goes;
      whole = whole;
      tells = subst (λ (x : View). console ≡ text ++ tale_text Where x.run.here.machine x.run.steps ++ flush_text) after told
          ∙ ap (λ t. t ++ tale_text Where mid.run.here.machine mid.run.steps ++ flush_text)
          (noted ∙ ap (λ (x : View). put ++ note_of x.is_end_told (isa_of mid.run.here.machine.active) Goals.Step x.budget came) kept);
      same = ap noting kept;
    }
goes-to v mid w steps came put text console (Err e) goes kept whole noted ended told = tt

pub returns : goal.returns
returns g c =
    let v = c.args.self.now in
    let w = c.tell_end.new.self in
    let here : c.steps-here.result ≡ v.run.steps = c.steps-here.ensures ∙ ap (λ (x : View). x.run.steps) c.self.view_is in
    let there : c.from-there.result ≡ c.args.steps = c.from-there.ensures in
    let way : nat_lt c.from-there.result c.steps-here.result ≡ nat_lt c.args.steps v.run.steps =
    ap (λ x. nat_lt x c.steps-here.result) there ∙ ap (λ x. nat_lt c.args.steps x) here in
    let apart : c.abs_diff.result ≡ abs_diff v.run.steps c.args.steps =
    c.abs_diff.ensures ∙ ap (λ x. abs_diff x c.from-there.result) here ∙ ap (λ x. abs_diff v.run.steps x) there in
    let bound : c.lesser.result ≡ min (abs_diff v.run.steps c.args.steps) v.budget =
    c.lesser.ensures ∙ ap (λ x. min x c.self.inside.budget) apart ∙ ap (λ x. min (abs_diff v.run.steps c.args.steps) x) (ap (λ (x : View). x.budget) c.self.view_is) in
    goes-to v c.go.new.self w c.args.steps c.in_ok-came.came c.go.new.console.items c.tell_end.new.console.items c.append_place.new.console.items c.append_place.result
    (same-bounds _ _ _ _ c.in_ok-came.came c.go.new.console.items v c.go.new.self way bound c.in_ok-came.ensures.goes)
    c.in_ok-came.ensures.same c.in_ok-tell_end.ensures.whole c.in_ok-tell_end.ensures.tells c.in_ok-tell_end.ensures.same
    (same-place c.debug.result.now.machine w.run.here.machine c.steps.result w.run.steps c.tell_end.new.console.items c.append_place.new.console.items c.append_place.result
    (ap (λ d. d.machine) c.debug.ensures ∙ ap (λ (x : View). x.run.here.machine) c.self-2.view_is)
    (c.steps.ensures ∙ ap (λ (x : View). x.run.steps) c.self-2.view_is) c.append_place.ensures)
