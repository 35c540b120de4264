-- Document 01, "Deciding a point", and document 02, R-5: the eight sectors of mode 2 and the regions of the other modes, by inequalities
-- alone and not by what a point is decided as. That each point off the origin lies in just one, that of the state it is decided as, is
-- `InOneSector` and `InOneRegion` of specs/Laws.
use Rattle.std.specs.Prelude.{ℕ, ◌+◌, ◌*◌, ◌-◌, ◌/◌, ◌%◌, Bool, ◌&&◌, cond, [], ◌∷◌, eqb, ℤ, pos, ◌+ℤ◌, ◌-ℤ◌, ◌*ℤ◌, get_or}
use Rattle.std.specs.Int.Signed.{lt_z, le_z}
use Rattle.line.specs.declared.Point.{Point}
use Rattle.line.specs.Mode.{by_mode, quadrant}
use Rattle.line.specs.Point.{turned_by}
use Rattle.deciding.specs.Decide.{square, in_first, outer}

-- Mode 2, sector 0, less than 22.5° from 0° to either side: re > 0, (re + im)² < 2·re², nearer than 45°, and (re - im)² < 2·re², nearer
-- than -45°. On an edge the two are equal, so that it belongs to no sector.
unfoldable pub about0 : Point → Bool
about0 z =
    let x : ℤ = pos 2 *ℤ square z.re in
    lt_z (pos 0) z.re && (lt_z (square (z.re +ℤ z.im)) x && lt_z (square (z.re -ℤ z.im)) x)

-- sector 1, less than 22.5° from 45° to either side: im ≥ 0, re > 0, and (re + im)² is above 2·re², nearer than 0°, and above 2·im²,
-- nearer than 90°. Again no edge is in.
unfoldable pub about45 : Point → Bool
about45 z =
    let s : ℤ = square (z.re +ℤ z.im) in
    (le_z (pos 0) z.im && lt_z (pos 0) z.re) && (lt_z (pos 2 *ℤ square z.re) s && lt_z (pos 2 *ℤ square z.im) s)

-- how many turns of 90° lead from the first region to a state: from 0° in modes 1 and 2, from quadrant I, whose Y1 Y2 is 11, in 3 and 4
unfoldable pub quarters_to : ℕ → ℕ → ℕ
quarters_to m s =
    let quadrants : ℕ = get_or (2 ∷ 3 ∷ 1 ∷ 0 ∷ []) (quadrant s) 0 in
    by_mode m (s / 2) (s / 2) quadrants quadrants

-- A state's region turned back by these turns. Modes 1 and 3: the first region. Mode 2: sector 0 of an even state, sector 1 of an odd one.
-- Mode 4: the part of quadrant I where Q4 says that re is of level 3, and Q3 that im is.
abbrev pub region_back : ℕ → ℕ → Point → Bool
region_back m s p =
    by_mode m (in_first 1 p) (cond (eqb (s % 2) 0) (about0 p) (about45 p)) (in_first 3 p) (in_first 4 p && eqb (outer p.re + 2 * outer p.im) (s % 4))

-- the region of a state: "other quadrants are its turns"
unfoldable pub in_region : ℕ → ℕ → Point → Bool
in_region m s z = region_back m s (turned_by ((4 - quarters_to m s) % 4) z)

-- sector k of the eight, about state k: 2, 4 and 6 are the turns of sector 0 by 90°, 180° and 270°, and 3, 5 and 7 those of sector 1
abbrev pub in_sector : ℕ → Point → Bool
in_sector k z = in_region 2 k z
