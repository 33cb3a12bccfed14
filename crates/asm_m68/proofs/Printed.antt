-- No two instructions share a text, and each name is printed.
use Rattle.std.proofs.Common.{◌≡◌, ℕ, inl, inr, List, [], ◌∷◌, length, Bool, true, false, nat_lt, if◌then◌else◌, refl, sym, ◌∙◌}
use Rattle.std.proofs.lemmas.Bool.{ltb-true, or_cases}
use Rattle.std.proofs.lemmas.Slice.Eq.{bytes_eq-Decides}
use Rattle.std.specs.List.{list_any}
use Rattle.std.specs.Str.{bytes_eq}
use Rattle.m68_isa.specs.Decode.{decoded}
use Rattle.m68_text.specs.Listed.{stems, wide_stems, plain_names, tested, conditions, names}
use Rattle.m68_text.specs.Text.{text_of}
use Rattle.asm_m68.specs.Assembly.{AreWords}
use Rattle.mix_bits.specs.Names.{name_of}
use Rattle.mix_bits.proofs.Conditions.{both}
use Rattle.asm_m68.specs.laws.AssemblyLaws.{is_exact}
use Rattle.asm_m68.specs.laws.AssemblyLaws.{IsPrinted, NamesArePrinted, TextsDiffer}
use Rattle.asm_m68.proofs.Complete.{gives_one}

pub texts_differ : TextsDiffer
texts_differ at vs ws i j fits first second is also e =
    gives_one (text_of (decoded ws) ws at) at vs ws fits
    (inr (record { words = first; instruction = i; decodes = is; text = sym e }))
    (inr (record { words = second; instruction = j; decodes = also; text = refl }))

-- Words that print each name, in the order of the list.

abbrev are_small : List ℕ → Bool
are_small [] = true
are_small (w ∷ ws) = if nat_lt w 65536 then are_small ws else false

abbrev prints_name : List ℕ → List ℕ → Bool
prints_name ws n = if are_small ws then (if is_exact (decoded ws) (length ws) then bytes_eq (name_of (text_of (decoded ws) ws 0)) n else false) else false

abbrev all_print : List (List ℕ) → List (List ℕ) → Bool
all_print [] printers = true
all_print (n ∷ ns) [] = false
all_print (n ∷ ns) (ws ∷ printers) = if prints_name ws n then all_print ns printers else false

unfoldable printers : List (List ℕ)
printers =
    (0x0010 ∷ 0x0000 ∷ []) ∷ (0x0050 ∷ 0x0000 ∷ []) ∷ (0x0090 ∷ 0x0000 ∷ 0x0000 ∷ []) ∷ (0x0210 ∷ 0x0000 ∷ []) ∷ (0x0250 ∷ 0x0000 ∷ []) ∷ (0x0290 ∷ 0x0000 ∷ 0x0000 ∷ []) ∷ (0x0410 ∷ 0x0000 ∷ []) ∷ (0x0450 ∷ 0x0000 ∷ [])
    ∷ (0x0490 ∷ 0x0000 ∷ 0x0000 ∷ []) ∷ (0x0610 ∷ 0x0000 ∷ []) ∷ (0x0650 ∷ 0x0000 ∷ []) ∷ (0x0690 ∷ 0x0000 ∷ 0x0000 ∷ []) ∷ (0x0A10 ∷ 0x0000 ∷ []) ∷ (0x0A50 ∷ 0x0000 ∷ []) ∷ (0x0A90 ∷ 0x0000 ∷ 0x0000 ∷ []) ∷ (0x0C10 ∷ 0x0000 ∷ [])
    ∷ (0x0C50 ∷ 0x0000 ∷ []) ∷ (0x0C90 ∷ 0x0000 ∷ 0x0000 ∷ []) ∷ (0x1010 ∷ []) ∷ (0x3010 ∷ []) ∷ (0x2010 ∷ []) ∷ (0x4010 ∷ []) ∷ (0x4050 ∷ []) ∷ (0x4090 ∷ [])
    ∷ (0x4210 ∷ []) ∷ (0x4250 ∷ []) ∷ (0x4290 ∷ []) ∷ (0x4410 ∷ []) ∷ (0x4450 ∷ []) ∷ (0x4490 ∷ []) ∷ (0x4610 ∷ []) ∷ (0x4650 ∷ [])
    ∷ (0x4690 ∷ []) ∷ (0x4A10 ∷ []) ∷ (0x4A50 ∷ []) ∷ (0x4A90 ∷ []) ∷ (0x5010 ∷ []) ∷ (0x5050 ∷ []) ∷ (0x5090 ∷ []) ∷ (0x5110 ∷ [])
    ∷ (0x5150 ∷ []) ∷ (0x5190 ∷ []) ∷ (0x8010 ∷ []) ∷ (0x8050 ∷ []) ∷ (0x8090 ∷ []) ∷ (0x9010 ∷ []) ∷ (0x9050 ∷ []) ∷ (0x9090 ∷ [])
    ∷ (0x9100 ∷ []) ∷ (0x9140 ∷ []) ∷ (0x9180 ∷ []) ∷ (0xB010 ∷ []) ∷ (0xB050 ∷ []) ∷ (0xB090 ∷ []) ∷ (0xB110 ∷ []) ∷ (0xB150 ∷ [])
    ∷ (0xB190 ∷ []) ∷ (0xB108 ∷ []) ∷ (0xB148 ∷ []) ∷ (0xB188 ∷ []) ∷ (0xC010 ∷ []) ∷ (0xC050 ∷ []) ∷ (0xC090 ∷ []) ∷ (0xD010 ∷ [])
    ∷ (0xD050 ∷ []) ∷ (0xD090 ∷ []) ∷ (0xD100 ∷ []) ∷ (0xD140 ∷ []) ∷ (0xD180 ∷ []) ∷ (0xE120 ∷ []) ∷ (0xE160 ∷ []) ∷ (0xE1A0 ∷ [])
    ∷ (0xE020 ∷ []) ∷ (0xE060 ∷ []) ∷ (0xE0A0 ∷ []) ∷ (0xE128 ∷ []) ∷ (0xE168 ∷ []) ∷ (0xE1A8 ∷ []) ∷ (0xE028 ∷ []) ∷ (0xE068 ∷ [])
    ∷ (0xE0A8 ∷ []) ∷ (0xE130 ∷ []) ∷ (0xE170 ∷ []) ∷ (0xE1B0 ∷ []) ∷ (0xE030 ∷ []) ∷ (0xE070 ∷ []) ∷ (0xE0B0 ∷ []) ∷ (0xE138 ∷ [])
    ∷ (0xE178 ∷ []) ∷ (0xE1B8 ∷ []) ∷ (0xE038 ∷ []) ∷ (0xE078 ∷ []) ∷ (0xE0B8 ∷ []) ∷ (0x0108 ∷ 0x0000 ∷ []) ∷ (0x0148 ∷ 0x0000 ∷ []) ∷ (0x3050 ∷ [])
    ∷ (0x2050 ∷ []) ∷ (0x4880 ∷ []) ∷ (0x48C0 ∷ []) ∷ (0x4890 ∷ 0x0000 ∷ []) ∷ (0x48D0 ∷ 0x0000 ∷ []) ∷ (0x90D0 ∷ []) ∷ (0x91D0 ∷ []) ∷ (0xB0D0 ∷ [])
    ∷ (0xB1D0 ∷ []) ∷ (0xD0D0 ∷ []) ∷ (0xD1D0 ∷ []) ∷ (0x50D0 ∷ []) ∷ (0x51D0 ∷ []) ∷ (0x52D0 ∷ []) ∷ (0x53D0 ∷ []) ∷ (0x54D0 ∷ [])
    ∷ (0x55D0 ∷ []) ∷ (0x56D0 ∷ []) ∷ (0x57D0 ∷ []) ∷ (0x58D0 ∷ []) ∷ (0x59D0 ∷ []) ∷ (0x5AD0 ∷ []) ∷ (0x5BD0 ∷ []) ∷ (0x5CD0 ∷ [])
    ∷ (0x5DD0 ∷ []) ∷ (0x5ED0 ∷ []) ∷ (0x5FD0 ∷ []) ∷ (0x50C8 ∷ 0x0000 ∷ []) ∷ (0x51C8 ∷ 0x0000 ∷ []) ∷ (0x52C8 ∷ 0x0000 ∷ []) ∷ (0x53C8 ∷ 0x0000 ∷ []) ∷ (0x54C8 ∷ 0x0000 ∷ [])
    ∷ (0x55C8 ∷ 0x0000 ∷ []) ∷ (0x56C8 ∷ 0x0000 ∷ []) ∷ (0x57C8 ∷ 0x0000 ∷ []) ∷ (0x58C8 ∷ 0x0000 ∷ []) ∷ (0x59C8 ∷ 0x0000 ∷ []) ∷ (0x5AC8 ∷ 0x0000 ∷ []) ∷ (0x5BC8 ∷ 0x0000 ∷ []) ∷ (0x5CC8 ∷ 0x0000 ∷ [])
    ∷ (0x5DC8 ∷ 0x0000 ∷ []) ∷ (0x5EC8 ∷ 0x0000 ∷ []) ∷ (0x5FC8 ∷ 0x0000 ∷ []) ∷ (0x6002 ∷ []) ∷ (0x6000 ∷ 0x0000 ∷ []) ∷ (0x60FF ∷ 0x0000 ∷ 0x0000 ∷ []) ∷ (0x6102 ∷ []) ∷ (0x6100 ∷ 0x0000 ∷ [])
    ∷ (0x61FF ∷ 0x0000 ∷ 0x0000 ∷ []) ∷ (0x6202 ∷ []) ∷ (0x6200 ∷ 0x0000 ∷ []) ∷ (0x62FF ∷ 0x0000 ∷ 0x0000 ∷ []) ∷ (0x6302 ∷ []) ∷ (0x6300 ∷ 0x0000 ∷ []) ∷ (0x63FF ∷ 0x0000 ∷ 0x0000 ∷ []) ∷ (0x6402 ∷ [])
    ∷ (0x6400 ∷ 0x0000 ∷ []) ∷ (0x64FF ∷ 0x0000 ∷ 0x0000 ∷ []) ∷ (0x6502 ∷ []) ∷ (0x6500 ∷ 0x0000 ∷ []) ∷ (0x65FF ∷ 0x0000 ∷ 0x0000 ∷ []) ∷ (0x6602 ∷ []) ∷ (0x6600 ∷ 0x0000 ∷ []) ∷ (0x66FF ∷ 0x0000 ∷ 0x0000 ∷ [])
    ∷ (0x6702 ∷ []) ∷ (0x6700 ∷ 0x0000 ∷ []) ∷ (0x67FF ∷ 0x0000 ∷ 0x0000 ∷ []) ∷ (0x6802 ∷ []) ∷ (0x6800 ∷ 0x0000 ∷ []) ∷ (0x68FF ∷ 0x0000 ∷ 0x0000 ∷ []) ∷ (0x6902 ∷ []) ∷ (0x6900 ∷ 0x0000 ∷ [])
    ∷ (0x69FF ∷ 0x0000 ∷ 0x0000 ∷ []) ∷ (0x6A02 ∷ []) ∷ (0x6A00 ∷ 0x0000 ∷ []) ∷ (0x6AFF ∷ 0x0000 ∷ 0x0000 ∷ []) ∷ (0x6B02 ∷ []) ∷ (0x6B00 ∷ 0x0000 ∷ []) ∷ (0x6BFF ∷ 0x0000 ∷ 0x0000 ∷ []) ∷ (0x6C02 ∷ [])
    ∷ (0x6C00 ∷ 0x0000 ∷ []) ∷ (0x6CFF ∷ 0x0000 ∷ 0x0000 ∷ []) ∷ (0x6D02 ∷ []) ∷ (0x6D00 ∷ 0x0000 ∷ []) ∷ (0x6DFF ∷ 0x0000 ∷ 0x0000 ∷ []) ∷ (0x6E02 ∷ []) ∷ (0x6E00 ∷ 0x0000 ∷ []) ∷ (0x6EFF ∷ 0x0000 ∷ 0x0000 ∷ [])
    ∷ (0x6F02 ∷ []) ∷ (0x6F00 ∷ 0x0000 ∷ []) ∷ (0x6FFF ∷ 0x0000 ∷ 0x0000 ∷ []) ∷ (0x003C ∷ 0x0000 ∷ []) ∷ (0x023C ∷ 0x0000 ∷ []) ∷ (0x0A3C ∷ 0x0000 ∷ []) ∷ (0x0110 ∷ []) ∷ (0x0150 ∷ [])
    ∷ (0x0190 ∷ []) ∷ (0x01D0 ∷ []) ∷ (0x40D0 ∷ []) ∷ (0x4810 ∷ []) ∷ (0x4840 ∷ []) ∷ (0x49C0 ∷ []) ∷ (0x4850 ∷ []) ∷ (0x4AD0 ∷ [])
    ∷ (0x4E40 ∷ []) ∷ (0x4E50 ∷ 0x0000 ∷ []) ∷ (0x4808 ∷ 0x0000 ∷ 0x0000 ∷ []) ∷ (0x4E58 ∷ []) ∷ (0x4E71 ∷ []) ∷ (0x4E74 ∷ 0x0000 ∷ []) ∷ (0x4E75 ∷ []) ∷ (0x4E76 ∷ [])
    ∷ (0x4E77 ∷ []) ∷ (0x4E90 ∷ []) ∷ (0x4ED0 ∷ []) ∷ (0x4190 ∷ []) ∷ (0x41D0 ∷ []) ∷ (0x7000 ∷ []) ∷ (0x81D0 ∷ []) ∷ (0x80D0 ∷ [])
    ∷ (0x4C50 ∷ 0x0800 ∷ []) ∷ (0x4C50 ∷ 0x0000 ∷ []) ∷ (0x8100 ∷ []) ∷ (0xC1D0 ∷ []) ∷ (0xC0D0 ∷ []) ∷ (0x4C10 ∷ 0x0800 ∷ []) ∷ (0x4C10 ∷ 0x0000 ∷ []) ∷ (0xC100 ∷ [])
    ∷ (0xC140 ∷ []) ∷ (0xE1D0 ∷ []) ∷ (0xE0D0 ∷ []) ∷ (0xE3D0 ∷ []) ∷ (0xE2D0 ∷ []) ∷ (0xE5D0 ∷ []) ∷ (0xE4D0 ∷ []) ∷ (0xE7D0 ∷ [])
    ∷ (0xE6D0 ∷ []) ∷ (0xA000 ∷ [])
    ∷ []

names_print : all_print names printers ≡ true
unfolding names stems wide_stems plain_names tested conditions printers
names_print = refl

small_words : (ws : List ℕ) → are_small ws ≡ true → AreWords ws
small_words [] h = tt
small_words (w ∷ ws) h =
    let parts : (nat_lt w 65536 ≡ true) × (are_small ws ≡ true) = both (nat_lt w 65536) (are_small ws) h in
    (ltb-true w 65536 parts.0, small_words ws parts.1)

printed : (ws m n : List ℕ) → prints_name ws m ≡ true → bytes_eq m n ≡ true → IsPrinted n
printed ws m n h e =
    let named : Bool = bytes_eq (name_of (text_of (decoded ws) ws 0)) m in
    let first = both (are_small ws) (if is_exact (decoded ws) (length ws) then named else false) h in
    let second = both (is_exact (decoded ws) (length ws)) named first.1 in
    record { words = ws; are = (small_words ws first.0, second.0); named = (bytes_eq-Decides (name_of (text_of (decoded ws) ws 0)) m).0 second.1 ∙ (bytes_eq-Decides m n).0 e }

among : (ns all : List (List ℕ)) (n : List ℕ) → all_print ns all ≡ true → list_any (λ m. bytes_eq m n) ns ≡ true → IsPrinted n
among [] all n h e = cc
among (m ∷ ns) [] n h e = cc
among (m ∷ ns) (ws ∷ all) n h e =
    let parts : (prints_name ws m ≡ true) × (all_print ns all ≡ true) = both (prints_name ws m) (all_print ns all) h in
    let rest : list_any (λ k. bytes_eq k n) ns ≡ true → IsPrinted n = among ns all n parts.1 in
    elim (or_cases (bytes_eq m n) (list_any (λ k. bytes_eq k n) ns) e) [ inl here ↦ printed ws m n parts.0 here | inr there ↦ rest there ]

pub names_printed : NamesArePrinted
names_printed n e = among names printers n names_print e
