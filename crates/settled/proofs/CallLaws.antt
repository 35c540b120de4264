-- The call: the answer by the tests that the code makes, and what is written. Assumes nothing.
use Prim.Native.Nat.{ℕ, zero, suc, ◌+◌, ◌*◌, ◌-◌, ◌/◌, ◌<◌, ◌≤◌}
use mathlib.Core.Path.{◌≡◌, refl, sym, ap, ap₂, ◌∙◌, subst}
use mathlib.Core.Bool.{Bool, true, false, ◌&&◌, not}
use mathlib.Core.List.{List, [], ◌∷◌}
use native.Mathlib.Omega.{arith}
use borrow.Author.Tests.{not-true, not-false, le-leb, leb-true, eq-eqb, ne_eqb}
use lib.Dec.{T, eqb, leb}
use lib.ListN.{length, get_or, take, drop}
use lib.Seq.{sets}
use Rattle.line.specs.Table.{every}
use Rattle.line.specs.Mode.{is_mode, width}
use Rattle.std.specs.Prelude.{Result, Ok, Err}
use Rattle.line.specs.declared.refusal.Refusal.{Refusal}
use Rattle.line.specs.declared.refusal.Refusal.TheVariants.{Mode, Lent}
use Rattle.line.specs.Refusal.{number, named, answered, need, accepted}
use Rattle.line.proofs.ByMode.{width_range}
use Rattle.line.proofs.RefusalLaws.{need-zero, answer_given, answer_refused as refused_as, Listed, listed_need}
use Rattle.line.proofs.Tests.{and_split, and_join}
use Rattle.scrambler.specs.Scramble.{Datum}
use Rattle.settled.specs.declared.Run.{Run}
use Rattle.settled.specs.Run.{data_of_bytes, before, following, run_points, run_bits, run_refusal, run_of, run_answer, run_bytes, Told}
use Rattle.settled.specs.Points.{at_most, points_bits}
use Rattle.settled.proofs.ByteLaws.{left}
use Rattle.settled.proofs.RunLaws.{run_most, run_bits_lem, run_within, without_run, first-most, run_count}

pub width_some : (m w : ℕ) → w ≡ width m → 0 < w
width_some m w e = omega (arith, width_range m)

-- THE ANSWER

module _ (m : ℕ) (ls ps : List ℕ) (lent : ℕ) where
  abbrev ds : List (List Datum)
  ds = data_of_bytes (width m) ls ps

  refused_by_lem : (e : Refusal) → run_refusal m ls ps lent ≡ number e → Err e ≡ run_answer m ls ps lent
  unfolding run_answer
  refused_by_lem e p = refused_as e _ (run_of ds) (sym p)

  pub no_mode : (b : Bool) → b ≡ is_mode m → not b ≡ true → Err Mode ≡ run_answer m ls ps lent
  no_mode b q t = refused_by_lem Mode (unfold run_refusal in ap (λ (c : Bool). need c 1 (need (eqb (length ls) (length ps) && leb (length (run_bits ds)) lent) 7 0)) (sym q ∙ not-true b t))

  module _ (b : Bool) (q : b ≡ is_mode m) (t : not b ≡ false) where
    second : run_refusal m ls ps lent ≡ need (eqb (length ls) (length ps) && leb (length (run_bits ds)) lent) 7 0
    unfolding run_refusal
    second = ap (λ (c : Bool). need c 1 (need (eqb (length ls) (length ps) && leb (length (run_bits ds)) lent) 7 0)) (sym q ∙ not-false b t)

    too_few : (eqb (length ls) (length ps) && leb (length (run_bits ds)) lent) ≡ false → Err Lent ≡ run_answer m ls ps lent
    too_few e = refused_by_lem Lent (second ∙ ap (λ (c : Bool). need c 7 0) e)

    pub no_partner : (length ls ≡ length ps → ⊥) → Err Lent ≡ run_answer m ls ps lent
    no_partner f = too_few (ap (λ (c : Bool). c && leb (length (run_bits ds)) lent) (ne_eqb (length ls) (length ps) f))

    module _ (e : length ls ≡ length ps) where
      found : (r : Run) → r ≡ run_of ds → length (run_bits ds) ≤ lent → Ok r ≡ run_answer m ls ps lent
      unfolding run_answer
      found r x h =
          ap Ok x
          ∙ answer_given _ (run_of ds) (second ∙ ap (λ (c : Bool). need c 7 0) (and_join (eqb (length ls) (length ps)) (leb (length (run_bits ds)) lent) (eq-eqb (length ls) (length ps) e) (le-leb (length (run_bits ds)) lent h)))

      module _ (w first : ℕ) (x : w ≡ width m) (f : first ≡ before (data_of_bytes w ls ps)) where
        at_width : first ≡ before ds
        at_width = f ∙ ap (λ (k : ℕ). before (data_of_bytes k ls ps)) x

        run_as : (points bits : ℕ) → points ≡ run_points ds → bits ≡ length (run_bits ds) → record { first = first; points = points; bits = bits } ≡ run_of ds
        unfolding run_of
        run_as points bits u v = λ i. record { first = at_width i; points = u i; bits = v i }

        pub no_run : first ≡ length ls → Ok (record { first = first; points = 0; bits = 0 }) ≡ run_answer m ls ps lent
        no_run h =
            let a = at_width in
            let z = without_run (width m) ls ps (omega arith) in
            let y = z.1 in
            found _ (run_as 0 0 (sym z.0) (sym y)) (omega arith)

        module _ (h : first ≤ length ls) (g : first ≡ length ls → ⊥) where
          there : before ds < length ls
          there = let a = at_width in omega (arith, g)

          pub first_fits : get_or ps first 0 / 16 ≤ w
          first_fits =
              let k = first-most (width m) ls ps (width_some m (width m) refl) e there in
              let i : get_or ps first 0 ≡ get_or ps (before ds) 0 = ap (λ (j : ℕ). get_or ps j 0) at_width in
              omega arith

          module _ (end : ℕ) (y : end ≡ first + 1 + following (left w ls ps (first + 1))) where
            abbrev F : ℕ
            F = following (left (width m) ls ps (suc (before ds)))

            more_is : end - first - 1 ≡ F
            more_is =
                let i : first + 1 ≡ suc (before ds) = let a = at_width in omega arith in
                let j : following (left w ls ps (first + 1)) ≡ F = ap₂ (λ (a b : ℕ). following (left a ls ps b)) x i in
                omega arith

            count_is : w - get_or ps first 0 / 16 + (end - first - 1) * w ≡ length (run_bits ds)
            count_is =
                ap₂ (λ (a b : ℕ). a - get_or ps b 0 / 16 + (end - first - 1) * a) x at_width ∙ ap (λ (a : ℕ). width m - get_or ps (before ds) 0 / 16 + a * width m) more_is
                ∙ sym (run_count (width m) ls ps (width_some m (width m) refl) e there).1

            pub run_found : (ok : Bool) → ok ≡ leb (w - get_or ps first 0 / 16 + (end - first - 1) * w) lent → ok ≡ true
                → Ok (record { first = first; points = end - first - 1 + 1; bits = w - get_or ps first 0 / 16 + (end - first - 1) * w }) ≡ run_answer m ls ps lent
            run_found ok o z =
                let a = more_is in
                let n = (run_count (width m) ls ps (width_some m (width m) refl) e there).0 in
                found _ (run_as _ _ (let i : end - first - 1 + 1 ≡ run_points ds = omega arith in i) count_is) (leb-true _ _ (ap (λ (k : ℕ). leb k lent) (sym count_is) ∙ sym o ∙ z))

            pub run_refused : (ok : Bool) → ok ≡ leb (w - get_or ps first 0 / 16 + (end - first - 1) * w) lent → ok ≡ false → Err Lent ≡ run_answer m ls ps lent
            run_refused ok o z = too_few (and_no (eqb (length ls) (length ps)) (ap (λ (k : ℕ). leb k lent) (sym count_is) ∙ sym o ∙ z))
              where
                and_no : (a : Bool) {c : Bool} → c ≡ false → (a && c) ≡ false
                and_no true e = e
                and_no false e = refl

-- WHAT IS WRITTEN

listed : (m : ℕ) (ls ps : List ℕ) (lent : ℕ) → Listed (run_refusal m ls ps lent)
unfolding run_refusal named
listed m ls ps lent = listed_need (is_mode m) 1 _ (λ h. refl) (listed_need _ 7 0 (λ h. refl) (λ h. absurd (h refl)))

module _ (m : ℕ) (ls ps out : List ℕ) (t : Result Run Refusal) (a : t ≡ run_answer m ls ps (length out)) where
  abbrev all : List (List Datum)
  all = data_of_bytes (width m) ls ps

  abbrev Answered : List ℕ → Result Run Refusal → Type 0
  Answered o u = (u ≡ run_answer m ls ps (length out)) × ((o ≡ run_bytes m ls ps out) × Told m ls ps (length out) u)

  pub answer_refused : (e : Refusal) → t ≡ Err e → Answered out (Err e)
  unfolding run_answer run_bytes
  answer_refused e q =
      let g = go (run_refusal m ls ps (length out)) (listed m ls ps (length out)) (sym q ∙ a) in
      (sym q ∙ a, (g.0, record { number_is = g.1; run_is = g.2 }))
    where
      go : (k : ℕ) → Listed k → Err e ≡ answered k (run_of all) → (out ≡ accepted k (sets out 0 (run_bits all)) out) × (number e ≡ k) × ([] ≡ accepted k (run_of all ∷ []) [])
      go zero l p = let z : ◌≡◌ {A = ℕ} 0 1 = cc in absurd (omega arith)
      go (suc k) l p = let is : e ≡ named (suc k) = cc in (refl, ap number is ∙ l (λ (z : suc k ≡ 0). omega arith), refl)

  module _ (r : Run) (q : t ≡ Ok r) where
    told : (run_refusal m ls ps (length out) ≡ 0) × (r ≡ run_of all)
    unfolding run_answer
    told = go (run_refusal m ls ps (length out)) (sym q ∙ a)
      where
        go : (k : ℕ) → Ok r ≡ answered k (run_of all) → (k ≡ 0) × (r ≡ run_of all)
        go zero e = (refl, cc)
        go (suc k) e = let z : ◌≡◌ {A = ℕ} 0 1 = cc in absurd (omega arith)

    bounds : (r.first ≡ before all) × (r.points ≡ run_points all)
    unfolding run_of
    bounds = let e = told.1 in (ap (λ (x : Run). x.first) e, ap (λ (x : Run). x.points) e)

    enough : length (run_bits all) ≤ length out
    unfolding run_refusal
    enough =
        let z = (need-zero (is_mode m) 1 _ (omega arith) told.0).1 in
        let y = (need-zero (eqb (length ls) (length ps) && leb (length (run_bits all)) (length out)) 7 0 (omega arith) z).0 in
        leb-true (length (run_bits all)) (length out) (and_split (eqb (length ls) (length ps)) (leb (length (run_bits all)) (length out)) y).1

    some : 0 < width m
    some = width_some m (width m) refl

    pub end_there : r.first + r.points ≤ length ps
    end_there = let b = bounds in let f = b.0 in let n = b.1 in let h = run_within (width m) ls ps some in omega arith

    module _ (w : ℕ) (x : w ≡ width m) where
      abbrev part : List ℕ
      part = take (r.first + r.points - r.first) (drop r.first ps)

      part_is : part ≡ take (run_points all) (drop (before all) ps)
      part_is =
          let b = bounds in
          let n = b.1 in
          ap₂ (λ (k f : ℕ). take k (drop f ps)) (let i : r.first + r.points - r.first ≡ run_points all = omega arith in i) b.0

      bits_are : points_bits w part ≡ run_bits all
      bits_are = ap₂ points_bits x part_is ∙ sym (run_bits_lem (width m) ls ps some)

      pub part_most : T (every (at_most w) part)
      part_most = rw (x, part_is) (run_most (width m) ls ps some)

      pub part_fits : length (points_bits w part) ≤ length out
      part_fits = rw bits_are enough

      pub answer_found : (o : List ℕ) → o ≡ sets out 0 (points_bits w part) → Answered o (Ok r)
      unfolding run_bytes
      answer_found o e =
          let z = told in
          let left : (n : ℕ) → n ≡ 0 → (o ≡ accepted n (sets out 0 (run_bits all)) out) × ((0 ≡ n) × (r ∷ [] ≡ accepted n (run_of all ∷ []) [])) =
          λ n k. subst (λ (n : ℕ). (o ≡ accepted n (sets out 0 (run_bits all)) out) × ((0 ≡ n) × (r ∷ [] ≡ accepted n (run_of all ∷ []) []))) (sym k)
          (e ∙ ap (sets out 0) bits_are, (refl, ap (λ (s : Run). s ∷ []) z.1)) in
          let g = left (run_refusal m ls ps (length out)) z.0 in
          (sym q ∙ a, (g.0, record { number_is = g.1.0; run_is = g.1.1 }))
