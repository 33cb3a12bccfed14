-- A mask by shifts is the set of its places: the checker computes all 32 times 32 of them.
use Rattle.std.proofs.Common.{◌≡◌, ℕ, ◌+◌, ◌-◌, ◌*◌, ◌/◌, ◌%◌, ◌^◌, ◌<◌, ◌==◌, Bool, true, arith, subst, refl}
use Rattle.std.specs.Int.{rotate_right, w32}
use Rattle.std.proofs.lemmas.Nat.{div-mul-add, mod-mul-add}
use Rattle.std.proofs.lemmas.Bool.{eqb-true}
use Rattle.mix_bits.specs.laws.Ranges.{every}
use Rattle.mix_bits.proofs.Every.{every_at}
use Rattle.ppc_alu.specs.Masks.{mask_of}

-- ones from bit 0 on, rotated to their place
by_shifts : ℕ → ℕ → ℕ
by_shifts mb me = rotate_right w32 (4294967295 * 2 ^ (31 - (me + 32 - mb) % 32) % 4294967296) mb

agrees : ℕ → ℕ → Bool
agrees mb me = by_shifts mb me == mask_of mb me

all-agree : every 10 0 (λ n. agrees (n / 32) (n % 32)) ≡ true
unfolding agrees by_shifts
all-agree = refl

pub mask_is : (mb me : ℕ) → mb < 32 → me < 32 → rotate_right w32 (4294967295 * 2 ^ (31 - (me + 32 - mb) % 32) % 4294967296) mb ≡ mask_of mb me
unfolding agrees by_shifts
mask_is mb me begin end =
    let all : agrees ((mb * 32 + me) / 32) ((mb * 32 + me) % 32) ≡ true = every_at 10 (λ n. agrees (n / 32) (n % 32)) (mb * 32 + me) all-agree (omega (arith, begin, end)) in
    let row : agrees mb ((mb * 32 + me) % 32) ≡ true = subst (λ k. agrees k ((mb * 32 + me) % 32) ≡ true) (div-mul-add mb 32 me end) all in
    let both : agrees mb me ≡ true = subst (λ k. agrees mb k ≡ true) (mod-mul-add mb 32 me end) row in
    eqb-true (by_shifts mb me) (mask_of mb me) both
