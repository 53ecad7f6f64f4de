-- The place of an encoding in the table, by its bits (SDM 3D, appendix B: bits 1 to 9 are the index, 10 to 11 the kind, 13 to 14 the width). Assumes nothing.
use Rattle.std.specs.Prelude.{ℕ, ◌+◌, ◌/◌, ◌%◌, ◌^◌, cond, eqb, leb}

-- the place of the first field of a width and kind, by bits 10 to 14; 0 where there is none
unfoldable pub start_of : ℕ → ℕ
start_of g =
    cond (eqb g 3) 10
    (cond (eqb g 8) 17
    (cond (eqb g 9) 43
    (cond (eqb g 10) 44
    (cond (eqb g 11) 55
    (cond (eqb g 16) 58
    (cond (eqb g 17) 76
    (cond (eqb g 18) 84
    (cond (eqb g 19) 107
    (cond (eqb g 24) 108
    (cond (eqb g 25) 116
    (cond (eqb g 26) 122
    (cond (eqb g 27) 142 0))))))))))))

-- how many fields a width and kind has, up to the first index that no field has
unfoldable pub count_of : ℕ → ℕ
count_of g =
    cond (eqb g 2) 10
    (cond (eqb g 3) 7
    (cond (eqb g 8) 26
    (cond (eqb g 9) 1
    (cond (eqb g 10) 11
    (cond (eqb g 11) 3
    (cond (eqb g 16) 18
    (cond (eqb g 17) 8
    (cond (eqb g 18) 22
    (cond (eqb g 19) 1
    (cond (eqb g 24) 8
    (cond (eqb g 25) 6
    (cond (eqb g 26) 20
    (cond (eqb g 27) 12 0)))))))))))))

-- 154 where the table has no such encoding. No field has 0x482C, so the one after it stands apart
unfoldable pub lookup : ℕ → ℕ
lookup e =
    cond (eqb e 0x482E) 106
    (cond (leb 0x8000 e) 154
    (cond (eqb (e % 2) 1) 154
    (cond (leb (count_of (e / 2 ^ 10)) (e / 2 % 512)) 154
    (start_of (e / 2 ^ 10) + e / 2 % 512))))
