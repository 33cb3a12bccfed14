-- The files of a command, one after the other.
use Rattle.std.proofs.Common.{◌≡◌, ℕ, ◌-◌, ◌≤◌, length, take, drop, get_or, arith, List, [], ◌∷◌, ◌++◌, Option, Some, None, Result, Ok, Err, IfOk, IfErr, sym, ap, subst, ◌∙◌, append_assoc}
use Rattle.std.specs.Option.{option_map}
use Rattle.std.proofs.lemmas.List.{take_all}
use Rattle.mix_bits.specs.declared.file.File.TheVariants.{Flat, Rsrc, Pef}
use Rattle.mix_io.specs.Counts.{CountsStay, CountRose, Rose}
use Rattle.mix_io.specs.declared.errors.FetchError.{FetchError}
use Rattle.mix_io.specs.declared.errors.FetchError.TheVariants.{NoMemory, Failed, TooLong}
use Rattle.job_words.specs.Jobs.{keys_in_order, limit_of, place_in, wanted_among, wanted_at}
use Rattle.job_words.specs.Asks.{name_at}
use Rattle.job_words.specs.declared.job.Command.{Command}
use Rattle.job_words.specs.declared.job.Key.{Key}
use Rattle.job_words.specs.declared.job.Key.TheVariants.{Program, Image, Text, Script}
use Rattle.mix_top.specs.World.{Contents, NoneRose, ShelfCounts}
use Rattle.mix_top.specs.Files.{AreFetched, AreFiles, IsNamed, IsOf}
use Rattle.mix_top.specs.inner.Parts.{Adds, IsCause, Misses, MissesFirst, with_file}
use Rattle.mix_top.specs.declared.files.Fetched.{Fetched}
use Rattle.mix_top.specs.declared.files.Missing.{Missing}

-- what was fetched for a key, where a word names it
fetched-by : (words : List (List ℕ)) (contents : Contents) (key : Key) (o : Option ℕ) (file : Option (List ℕ)) → IsNamed contents (limit_of key) (option_map (name_at words) o) file
    → AreFetched words contents (wanted_at o key)
fetched-by words contents key None file named = tt
fetched-by words contents key (Some place) None named = absurd named
fetched-by words contents key (Some place) (Some file) named = ((file, named), tt)

fetched-both : (words : List (List ℕ)) (contents : Contents) (xs ys : List (Key × ℕ)) → AreFetched words contents xs → AreFetched words contents ys → AreFetched words contents (xs ++ ys)
fetched-both words contents [] ys first second = second
fetched-both words contents (x ∷ xs) ys first second = (first.0, fetched-both words contents xs ys first.1 second)

-- counts that stay, and then a cause
stay-then : (a b c : List ℕ → ℕ) → CountsStay a b → CountsStay b c → CountsStay a c
stay-then a b c first second = λ n. second n ∙ first n

rose-after : (a b c : List ℕ → ℕ) (name : List ℕ) → CountsStay a b → CountRose b c name → CountRose a c name
rose-after a b c name first second =
    record {
      rose = subst (λ n. Rose n (c name)) (first name) second.rose;
      later = λ n. subst (λ k. k ≤ c n) (first n) (second.later n);
    }

none-then : (a b c : ShelfCounts) → NoneRose a b → NoneRose b c → NoneRose a c
none-then a b c first second =
    record {
      faults = stay-then a.faults b.faults c.faults first.faults second.faults;
      excesses = stay-then a.excesses b.excesses c.excesses first.excesses second.excesses;
    }

cause-after : (contents : Contents) (limit : ℕ) (name : List ℕ) (a b c : ShelfCounts) (error : FetchError) → NoneRose a b → IsCause contents limit name b c error → IsCause contents limit name a c error
cause-after contents limit name a b c NoMemory first second = (second.0, none-then a b c first second.1)
cause-after contents limit name a b c Failed first second =
    record {
      faults = rose-after a.faults b.faults c.faults name first.faults second.faults;
      excesses = stay-then a.excesses b.excesses c.excesses first.excesses second.excesses;
    }
cause-after contents limit name a b c (TooLong most) first second = (
  second.0,
  record {
    faults = stay-then a.faults b.faults c.faults first.faults second.1.faults;
    excesses = rose-after a.excesses b.excesses c.excesses name first.excesses second.1.excesses;
  },
)

-- the file of the first key was not fetched
pub missed-first : (words : List (List ℕ)) (contents : Contents) (command : Command) (keys : List Key) (key : Key) (a b : ShelfCounts) (missing : Missing)
    → 1 ≤ length keys → Misses words contents command (get_or keys 0 key) a b missing → MissesFirst words contents command keys a b missing
missed-first words contents command [] key a b missing some misses = absurd (omega arith)
missed-first words contents command (key ∷ keys) other a b missing some misses =
    let rest : List (Key × ℕ) = wanted_among keys command in
    record {
      before = [];
      after = rest;
      order = ap (λ o. wanted_at o key ++ rest) misses.named ∙ ap (λ k. (k, missing.place) ∷ rest) (sym misses.same);
      fetched = tt;
      cause = subst (λ k. IsCause contents (limit_of k) (name_at words missing.place) a b missing.error) (sym misses.same) misses.cause;
    }

-- or that of a later one
missed-later : (words : List (List ℕ)) (contents : Contents) (command : Command) (key : Key) (keys : List Key) (file : Option (List ℕ)) (a b c : ShelfCounts) (missing : Missing)
    → IsOf words contents command key file → NoneRose a b → MissesFirst words contents command keys b c missing → MissesFirst words contents command (key ∷ keys) a c missing
missed-later words contents command key keys file a b c missing first stay misses =
    let own : List (Key × ℕ) = wanted_at (place_in command key) key in
    record {
      before = own ++ misses.before;
      after = misses.after;
      order = ap (λ ws. own ++ ws) misses.order ∙ sym (append_assoc own misses.before ((missing.key, missing.place) ∷ misses.after));
      fetched = fetched-both words contents own misses.before (fetched-by words contents key (place_in command key) file first) misses.fetched;
      cause = cause-after contents (limit_of missing.key) (name_at words missing.place) a b c missing.error stay misses.cause;
    }

-- the keys behind the first one
rest-whole : (key : Key) (keys : List Key) → take (length (key ∷ keys) - 1) (drop 1 (key ∷ keys)) ≡ keys
rest-whole key keys = take_all (length (key ∷ keys) - 1) keys (omega arith)

pub missed-rest : (words : List (List ℕ)) (contents now : Contents) (command : Command) (keys : List Key) (key : Key) (file : Option (List ℕ)) (a b c : ShelfCounts) (r : Result Fetched Missing)
    → 1 ≤ length keys → now ≡ contents → IsOf words contents command (get_or keys 0 key) file → NoneRose a b
    → IfErr r (MissesFirst words now command (take (length keys - 1) (drop 1 keys)) b c) → IfErr r (MissesFirst words contents command keys a c)
missed-rest words contents now command keys key file a b c (Ok files) some same first stay rest = tt
missed-rest words contents now command [] key file a b c (Err missing) some same first stay rest = absurd (omega arith)
missed-rest words contents now command (key ∷ keys) other file a b c (Err missing) some same first stay rest =
    missed-later words contents command key keys file a b c missing first stay
    (subst (λ ks. MissesFirst words contents command ks b c missing) (rest-whole key keys) (subst (λ x. MissesFirst words x command (take (length (key ∷ keys) - 1) (drop 1 (key ∷ keys))) b c missing) same rest))

-- the files of one key after the other
pub adds-rest : (words : List (List ℕ)) (contents now : Contents) (command : Command) (keys : List Key) (key : Key) (file : Option (List ℕ)) (old mid : Fetched) (r : Result Fetched Missing)
    → 1 ≤ length keys → now ≡ contents → IsOf words contents command (get_or keys 0 key) file → mid ≡ with_file old (get_or keys 0 key) file
    → IfOk r (Adds words now command (take (length keys - 1) (drop 1 keys)) mid) → IfOk r (Adds words contents command keys old)
adds-rest words contents now command keys key file old mid (Err missing) some same first put rest = tt
adds-rest words contents now command [] key file old mid (Ok new) some same first put rest = absurd (omega arith)
adds-rest words contents now command (key ∷ keys) other file old mid (Ok new) some same first put rest =
    let more : Adds words contents command keys mid new =
    subst (λ ks. Adds words contents command ks mid new) (rest-whole key keys) (subst (λ x. Adds words x command (take (length (key ∷ keys) - 1) (drop 1 (key ∷ keys))) mid new) same rest) in
    record { file = file; is = first; rest = subst (λ f. Adds words contents command keys f new) put more }

-- all files, by their keys
abbrev no_files : Fetched
no_files = record { program = record { flat = None; rsrc = None; pef = None }; image = None; text = None; script = None }

files-of_keys : (words : List (List ℕ)) (contents : Contents) (command : Command) (files : Fetched) → Adds words contents command keys_in_order no_files files → AreFiles words contents command files
files-of_keys words contents command files adds (Program Flat) = subst (λ f. IsOf words contents command (Program Flat) f.program.flat) (sym adds.rest.rest.rest.rest.rest.rest) adds.is
files-of_keys words contents command files adds (Program Rsrc) = subst (λ f. IsOf words contents command (Program Rsrc) f.program.rsrc) (sym adds.rest.rest.rest.rest.rest.rest) adds.rest.is
files-of_keys words contents command files adds (Program Pef) = subst (λ f. IsOf words contents command (Program Pef) f.program.pef) (sym adds.rest.rest.rest.rest.rest.rest) adds.rest.rest.is
files-of_keys words contents command files adds Image = subst (λ f. IsOf words contents command Image f.image) (sym adds.rest.rest.rest.rest.rest.rest) adds.rest.rest.rest.is
files-of_keys words contents command files adds Text = subst (λ f. IsOf words contents command Text f.text) (sym adds.rest.rest.rest.rest.rest.rest) adds.rest.rest.rest.rest.is
files-of_keys words contents command files adds Script = subst (λ f. IsOf words contents command Script f.script) (sym adds.rest.rest.rest.rest.rest.rest) adds.rest.rest.rest.rest.rest.is

pub files-fetched : (words : List (List ℕ)) (contents : Contents) (command : Command) (r : Result Fetched Missing)
    → IfOk r (Adds words contents command keys_in_order (record { program = record { flat = None; rsrc = None; pef = None }; image = None; text = None; script = None })) → IfOk r (AreFiles words contents command)
files-fetched words contents command (Ok files) adds = files-of_keys words contents command files adds
files-fetched words contents command (Err missing) adds = tt
