-- Chains of parts that may be refused, and tests of several parts.
use Rattle.std.proofs.Common.{◌≡◌, ℕ, ◌==◌, Bool, true, false, ◌&&◌, if◌then◌else◌, Option, Some, None, Result, Ok, Err, refl}
use Rattle.std.proofs.lemmas.Bool.Decides.{Decides-eqb}
use Rattle.mix_bits.specs.Results.{◌>>=◌}
use Rattle.routine_desc.specs.declared.record.BadDesc.{BadDesc}
use Rattle.routine_desc.specs.inner.Read.{unless_broken}

-- a chain that is done had its first part done
pub record IsChain (A B E : Type 0) (x : Result A E) (f : A → Result B E) (y : B) : Type 0 where
  pub value : A
  pub first : x ≡ Ok value
  pub rest : f value ≡ Ok y

pub chain_done : {A B E : Type 0} (x : Result A E) (f : A → Result B E) (y : B) → (x >>= f) ≡ Ok y → IsChain A B E x f y
chain_done (Ok v) f y h = record { value = v; first = refl; rest = h }
chain_done (Err e) f y h = absurd (cc)

pub if_refused : {A E : Type 0} (b : Bool) (e : E) (x : Result A E) (y : A) → (if b then Err e else x) ≡ Ok y → x ≡ Ok y
if_refused true e x y h = absurd (cc)
if_refused false e x y h = h

pub none_broken : {A : Type 0} (o : Option BadDesc) (v : Result A BadDesc) (x : A) → unless_broken o v ≡ Ok x → o ≡ None
none_broken None v x h = refl
none_broken (Some e) v x h = absurd (cc)

pub unbroken : {A : Type 0} (o : Option BadDesc) (v : Result A BadDesc) (x : A) → unless_broken o v ≡ Ok x → v ≡ Ok x
unbroken None v x h = h
unbroken (Some e) v x h = absurd (cc)

pub if_kept : {A E : Type 0} (b : Bool) (x y : A) (e : E) → (if b then Ok x else Err e) ≡ Ok y → (b ≡ true) × (x ≡ y)
if_kept true x y e h = (refl, cc)
if_kept false x y e h = absurd (cc)

pub both : (a b : Bool) → (a && b) ≡ true → (a ≡ true) × (b ≡ true)
both true b h = (refl, h)
both false b h = absurd (cc)

-- two fields are the same, and then two more by a test
pub same_parts : (e d : Bool) (x y w v : ℕ) → (e && (if d then x == y else w == v)) ≡ true → (e ≡ true) × (d ≡ true → x ≡ y) × (d ≡ false → w ≡ v)
same_parts true true x y w v h = (refl, (λ yes. (Decides-eqb x y).0 h), (λ no. absurd (cc)))
same_parts true false x y w v h = (refl, (λ yes. absurd (cc)), (λ no. (Decides-eqb w v).0 h))
same_parts false d x y w v h = absurd (cc)

-- one result is one value
pub ok_same : {A E : Type 0} (x y : A) (r : Result A E) → r ≡ Ok x → r ≡ Ok y → x ≡ y
ok_same x y r p q = cc
