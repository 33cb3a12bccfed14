-- Events that were done, one after the other.
use Rattle.std.proofs.Common.{◌≡◌, List, [], ◌∷◌, ◌++◌, Option, Some, None, refl, sym, ap, ◌∙◌, subst, append_assoc}
use Rattle.mix_io.specs.Streams.{Breaks, Grows}
use Rattle.mix_io.proofs.Streams.{breaks-after, grows-more, grows-none}
use Rattle.mixed_machine.specs.Runs.{Sinks}
use Rattle.mix_top.specs.Sessions.{Session}
use Rattle.mix_top.specs.Events.{Event, after, lines_by, said_by}
use Rattle.mix_top.specs.Plays.{AllDone, Played}
use Rattle.toolbox.specs.declared.broken.Broken.{Broken}
use Rattle.toolbox.specs.declared.broken.Broken.TheVariants.{Input, Output, Trace}

pub after-append : (s : Session) (xs ys : List Event) → after s (xs ++ ys) ≡ after (after s xs) ys
unfolding after
after-append s [] ys = refl
after-append s (e ∷ xs) ys = after-append e.after xs ys

pub said-append : (xs ys : List Event) → said_by (xs ++ ys) ≡ said_by xs ++ said_by ys
unfolding said_by
said-append [] ys = refl
said-append (e ∷ xs) ys = ap (λ zs. e.said ++ zs) (said-append xs ys) ∙ sym (append_assoc e.said (said_by xs) (said_by ys))

pub lines-append : (xs ys : List Event) → lines_by (xs ++ ys) ≡ lines_by xs ++ lines_by ys
unfolding lines_by
lines-append [] ys = refl
lines-append (e ∷ xs) ys = ap (λ zs. e.line ++ zs) (lines-append xs ys) ∙ sym (append_assoc e.line (lines_by xs) (lines_by ys))

-- nothing was done
pub all-none : (s : Session) (a : Sinks) → AllDone [] s s a a
unfolding after said_by lines_by
all-none s a = record { end_is = refl; said = grows-none a.out; traced = grows-none a.trace }

-- where the first events end
ends-behind : (xs ys : List Event) (s t u : Session) → t ≡ after s xs → u ≡ after t ys → u ≡ after s (xs ++ ys)
ends-behind xs ys s t u first more = more ∙ (ap (λ r. after r ys) first ∙ sym (after-append s xs ys))

pub all-more : (xs ys : List Event) (s t u : Session) (a b c : Sinks) → AllDone xs s t a b → AllDone ys t u b c → AllDone (xs ++ ys) s u a c
all-more xs ys s t u a b c first more =
    record {
      end_is = ends-behind xs ys s t u first.end_is more.end_is;
      said = subst (Grows a.out c.out) (sym (said-append xs ys)) (grows-more a.out b.out c.out (said_by xs) (said_by ys) first.said more.said);
      traced = subst (Grows a.trace c.trace) (sym (lines-append xs ys)) (grows-more a.trace b.trace c.trace (lines_by xs) (lines_by ys) first.traced more.traced);
    }

-- more were done, or some of them
pub played-more : (stop : Option Broken) (xs ys : List Event) (s t u : Session) (a b c : Sinks) → AllDone xs s t a b → Played stop ys t u b c → Played stop (xs ++ ys) s u a c
played-more None xs ys s t u a b c first more = all-more xs ys s t u a b c first more
played-more (Some Input) xs ys s t u a b c first more =
    record {
      before = xs ++ more.before;
      event = more.event;
      behind = more.behind;
      order = ap (λ zs. xs ++ zs) more.order ∙ sym (append_assoc xs more.before (more.event ∷ more.behind));
      reads = more.reads;
      end_is = ends-behind xs more.before s t u first.end_is more.end_is;
      said = subst (Grows a.out c.out) (sym (said-append xs more.before)) (grows-more a.out b.out c.out (said_by xs) (said_by more.before) first.said more.said);
      traced = subst (Grows a.trace c.trace) (sym (lines-append xs more.before)) (grows-more a.trace b.trace c.trace (lines_by xs) (lines_by more.before) first.traced more.traced);
    }
played-more (Some Output) xs ys s t u a b c first more =
    record {
      before = xs ++ more.before;
      event = more.event;
      behind = more.behind;
      order = ap (λ zs. xs ++ zs) more.order ∙ sym (append_assoc xs more.before (more.event ∷ more.behind));
      says = more.says;
      end_is = ends-behind xs more.before s t u first.end_is more.end_is;
      said = subst (λ zs. Breaks a.out c.out zs more.event.said) (sym (said-append xs more.before))
          (breaks-after a.out b.out c.out (said_by xs) (said_by more.before) more.event.said first.said more.said);
      traced = subst (Grows a.trace c.trace) (sym (lines-append xs more.before)) (grows-more a.trace b.trace c.trace (lines_by xs) (lines_by more.before) first.traced more.traced);
    }
played-more (Some Trace) xs ys s t u a b c first more =
    record {
      before = xs ++ more.before;
      event = more.event;
      behind = more.behind;
      order = ap (λ zs. xs ++ zs) more.order ∙ sym (append_assoc xs more.before (more.event ∷ more.behind));
      tells = more.tells;
      end_is = more.end_is;
      said = subst (Grows a.out c.out) (sym (append_assoc (said_by xs) (said_by more.before) more.event.said) ∙ ap (λ zs. zs ++ more.event.said) (sym (said-append xs more.before)))
          (grows-more a.out b.out c.out (said_by xs) (said_by more.before ++ more.event.said) first.said more.said);
      traced = subst (λ zs. Breaks a.trace c.trace zs more.event.line) (sym (lines-append xs more.before))
          (breaks-after a.trace b.trace c.trace (lines_by xs) (lines_by more.before) more.event.line first.traced more.traced);
    }

-- some of the events of a longer list were done
longer : (xs before behind more : List Event) (e : Event) → xs ≡ before ++ (e ∷ behind) → xs ++ more ≡ before ++ (e ∷ (behind ++ more))
longer xs before behind more e is = ap (λ zs. zs ++ more) is ∙ append_assoc before (e ∷ behind) more

pub played-front : (stopped : Broken) (xs more : List Event) (s t : Session) (a b : Sinks) → Played (Some stopped) xs s t a b → Played (Some stopped) (xs ++ more) s t a b
played-front Input xs more s t a b part =
    record {
      before = part.before;
      event = part.event;
      behind = part.behind ++ more;
      order = longer xs part.before part.behind more part.event part.order;
      reads = part.reads;
      end_is = part.end_is;
      said = part.said;
      traced = part.traced;
    }
played-front Output xs more s t a b part =
    record {
      before = part.before;
      event = part.event;
      behind = part.behind ++ more;
      order = longer xs part.before part.behind more part.event part.order;
      says = part.says;
      end_is = part.end_is;
      said = part.said;
      traced = part.traced;
    }
played-front Trace xs more s t a b part =
    record {
      before = part.before;
      event = part.event;
      behind = part.behind ++ more;
      order = longer xs part.before part.behind more part.event part.order;
      tells = part.tells;
      end_is = part.end_is;
      said = part.said;
      traced = part.traced;
    }

-- the same events
pub played-as : (stop : Option Broken) (xs ys : List Event) (s t : Session) (a b : Sinks) → xs ≡ ys → Played stop xs s t a b → Played stop ys s t a b
played-as stop xs ys s t a b same played = subst (λ zs. Played stop zs s t a b) same played
