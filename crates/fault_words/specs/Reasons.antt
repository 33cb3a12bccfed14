-- What the numbers of refusals and of exceptions stand for (the numbers of refusals are this project's own; vectors:
-- M68000 Family Programmer's Reference Manual, appendix B).
use Rattle.std.specs.Prelude.{ℕ, ◌==◌, if◌then◌else◌, List, [], codes}

-- why a routine descriptor is refused
abbrev pub descriptor_reason : ℕ → List ℕ
descriptor_reason code =
    if code == 1 then codes "a part of it is outside RAM"
    else (if code == 2 then codes "it does not begin with $AAFE"
    else (if code == 3 then codes "its version is not 7"
    else (if code == 4 then codes "a field is not 0 that is reserved"
    else (if code == 5 then codes "its last record has an index above 63"
    else (if code == 6 then codes "a record has an ISA that is neither 0, 1 nor 16"
    else (if code == 7 then codes "a record has flags that are not taken"
    else (if code == 8 then codes "a record has a procInfo without a signature"
    else (if code == 9 then codes "its records are not called alike"
    else []))))))))

-- why a procInfo word has no signature
abbrev pub info_reason : ℕ → List ℕ
info_reason code =
    if code == 1 then codes "its convention is none of those that there are"
    else (if code == 2 then codes "bit 31 is set"
    else (if code == 3 then codes "the place of its result has no name"
    else (if code == 4 then codes "a size is set behind the first that is 0, or a selector has none"
    else (if code == 5 then codes "two parameters are in one register"
    else []))))

-- what exception a vector stands for
abbrev pub vector_reason : ℕ → List ℕ
vector_reason code =
    if code == 5 then codes "a division by zero"
    else (if code == 6 then codes "a chk whose register is below 0 or above its bound"
    else (if code == 7 then codes "a trapv with V set"
    else (if code == 11 then codes "a word from $F000 on, which is a coprocessor's"
    else codes "a TRAP instruction")))
