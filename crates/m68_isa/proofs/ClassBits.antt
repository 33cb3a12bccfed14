-- A class of modes is the number with a bit for each of its places: computed over all 64 places.
use Rattle.std.proofs.Common.{ℕ, ◌≡◌, ◌/◌, ◌%◌, ◌^◌, ◌==◌, Bool, true, false, if◌then◌else◌, not, arith, refl, subst}
use Rattle.mix_bits.specs.laws.Ranges.{every}
use Rattle.mix_bits.proofs.Every.{every_at}
use Rattle.m68_isa.specs.Classes.{Class, in_class}
use Rattle.m68_isa.specs.Classes.Class.{Any, Data, Alterable, DataAlterable, MemoryAlterable, Control, ControlAlterable}
use Rattle.m68_isa.specs.First.{first_of}

-- whether two answers are one
agrees : Bool → Bool → Bool
agrees a b = if a then b else not b

same : (a b : Bool) → agrees a b ≡ true → a ≡ b
unfolding agrees
same true true is = refl
same true false is = cc
same false true is = cc
same false false is = refl

is_place : Class → ℕ → ℕ → Bool
is_place class places p = agrees (places / 2 ^ p % 2 == 1) (in_class class (p / 8) (p % 8))

all_places : (class : Class) (places w : ℕ) → every 6 0 (is_place class places) ≡ true → (places / 2 ^ (w % 64) % 2 == 1) ≡ in_class class (first_of w).mode (first_of w).lower
unfolding is_place
all_places class places w all =
    let mode : w % 64 / 8 ≡ (first_of w).mode = omega arith in
    let lower : w % 64 % 8 ≡ (first_of w).lower = omega arith in
    let here : (places / 2 ^ (w % 64) % 2 == 1) ≡ in_class class (w % 64 / 8) (w % 64 % 8) = same _ _ (every_at 6 (is_place class places) (w % 64) all (omega arith)) in
    subst (λ m. (places / 2 ^ (w % 64) % 2 == 1) ≡ in_class class m (first_of w).lower) mode
    (subst (λ l. (places / 2 ^ (w % 64) % 2 == 1) ≡ in_class class (w % 64 / 8) l) lower here)

any_all : every 6 0 (is_place Any 0x1FFFFFFFFFFFFFFF) ≡ true
unfolding is_place agrees
any_all = refl

pub any_places : (w : ℕ) → (0x1FFFFFFFFFFFFFFF / 2 ^ (w % 64) % 2 == 1) ≡ in_class Any (first_of w).mode (first_of w).lower
any_places w = all_places Any 0x1FFFFFFFFFFFFFFF w any_all

data_all : every 6 0 (is_place Data 0x1FFFFFFFFFFF00FF) ≡ true
unfolding is_place agrees
data_all = refl

pub data_places : (w : ℕ) → (0x1FFFFFFFFFFF00FF / 2 ^ (w % 64) % 2 == 1) ≡ in_class Data (first_of w).mode (first_of w).lower
data_places w = all_places Data 0x1FFFFFFFFFFF00FF w data_all

alterable_all : every 6 0 (is_place Alterable 0x03FFFFFFFFFFFFFF) ≡ true
unfolding is_place agrees
alterable_all = refl

pub alterable_places : (w : ℕ) → (0x03FFFFFFFFFFFFFF / 2 ^ (w % 64) % 2 == 1) ≡ in_class Alterable (first_of w).mode (first_of w).lower
alterable_places w = all_places Alterable 0x03FFFFFFFFFFFFFF w alterable_all

data_alterable_all : every 6 0 (is_place DataAlterable 0x03FFFFFFFFFF00FF) ≡ true
unfolding is_place agrees
data_alterable_all = refl

pub data_alterable_places : (w : ℕ) → (0x03FFFFFFFFFF00FF / 2 ^ (w % 64) % 2 == 1) ≡ in_class DataAlterable (first_of w).mode (first_of w).lower
data_alterable_places w = all_places DataAlterable 0x03FFFFFFFFFF00FF w data_alterable_all

memory_alterable_all : every 6 0 (is_place MemoryAlterable 0x03FFFFFFFFFF0000) ≡ true
unfolding is_place agrees
memory_alterable_all = refl

pub memory_alterable_places : (w : ℕ) → (0x03FFFFFFFFFF0000 / 2 ^ (w % 64) % 2 == 1) ≡ in_class MemoryAlterable (first_of w).mode (first_of w).lower
memory_alterable_places w = all_places MemoryAlterable 0x03FFFFFFFFFF0000 w memory_alterable_all

control_all : every 6 0 (is_place Control 0x0FFFFF0000FF0000) ≡ true
unfolding is_place agrees
control_all = refl

pub control_places : (w : ℕ) → (0x0FFFFF0000FF0000 / 2 ^ (w % 64) % 2 == 1) ≡ in_class Control (first_of w).mode (first_of w).lower
control_places w = all_places Control 0x0FFFFF0000FF0000 w control_all

control_alterable_all : every 6 0 (is_place ControlAlterable 0x03FFFF0000FF0000) ≡ true
unfolding is_place agrees
control_alterable_all = refl

pub control_alterable_places : (w : ℕ) → (0x03FFFF0000FF0000 / 2 ^ (w % 64) % 2 == 1) ≡ in_class ControlAlterable (first_of w).mode (first_of w).lower
control_alterable_places w = all_places ControlAlterable 0x03FFFF0000FF0000 w control_alterable_all
