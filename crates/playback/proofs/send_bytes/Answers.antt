use Prim.Native.Nat.{ℕ, ◌/◌}
use mathlib.Core.Path.{refl, sym, ap, ◌∙◌}
use mathlib.Core.List.{List}
use native.Mathlib.Omega.{arith}
use lib.IntN.{pos}
use lib.ListN.{length, replicate, length-replicate}
use lib.Seq.{length-take-le}
use Rattle.line.proofs.ByMode.{width_range}
use Rattle.std.proofs.lemmas.Result.{err_from_is_err_and}
use Rattle.sender.specs.Sender.{send_answer, send_numbers}
use Rattle.playback.proofs.BlockLaws.{groups_in, sent_is}
use Rattle.playback.proofs.CallLaws.{send_numbered, send_refused, send_fits, send_long, send_done}
use Rattle.playback.proofs.send_bytes.Goals as goal

pub nonzero_div-groups : goal.nonzero_div-groups
nonzero_div-groups c = omega (arith, c.width_of-w.ensures, width_range c.args.s.mode)

pub overflow_mul-m : goal.overflow_mul-m
overflow_mul-m c = omega (arith, groups_in (length c.args.input.now) c.width_of-w.result)

pub slice_bounds-send-end : goal.slice_bounds-send-end
slice_bounds-send-end c = sym (length-take-le _ _ (groups_in (length c.args.input.now) c.width_of-w.result))

pub returns-then-input-gt8192 : goal.returns-then-input-gt8192
returns-then-input-gt8192 c =
    let e = sent_is c.args.s c.args.input.now _ c.width_of-w.ensures in
    let answer = send_long c.args.s c.args.input.now (replicate 8192 (pos 0)) _ (length-replicate 8192 (pos 0))
    (c.in_ok-next.ensures.value ∙ ap (λ (x : List ℕ). send_answer c.args.s x (length (replicate 8192 (pos 0))) 0) e) _ refl c.args.out.now c.if-input-gt8192.true in
    record { value = answer.0; number = send_numbered _ _ _ _ answer.0; out_after = answer.1 }

pub overflow_mul-e : goal.overflow_mul-e
overflow_mul-e c =
    let e = sent_is c.args.s c.args.input.now _ c.width_of-w.ensures in
    omega (
      arith,
      send_fits c.args.s c.args.input.now (replicate 8192 (pos 0)) _ (length-replicate 8192 (pos 0))
          (c.in_ok-next.ensures.value ∙ ap (λ (x : List ℕ). send_answer c.args.s x (length (replicate 8192 (pos 0))) 0) e) _ refl _ (ap (λ (w : ℕ). length c.args.input.now / w) c.width_of-w.ensures),
    )

pub slice_bounds-numbers-end : goal.slice_bounds-numbers-end
slice_bounds-numbers-end c =
    let e = sent_is c.args.s c.args.input.now _ c.width_of-w.ensures in
    omega (
      arith,
      send_fits c.args.s c.args.input.now (replicate 8192 (pos 0)) _ (length-replicate 8192 (pos 0))
          (c.in_ok-next.ensures.value ∙ ap (λ (x : List ℕ). send_answer c.args.s x (length (replicate 8192 (pos 0))) 0) e) _ refl _ (ap (λ (w : ℕ). length c.args.input.now / w) c.width_of-w.ensures),
    )

pub slice_bounds-hand_over-end : goal.slice_bounds-hand_over-end
slice_bounds-hand_over-end c = sym (length-take-le _ _ (let e = sent_is c.args.s c.args.input.now _ c.width_of-w.ensures in
    omega (
      arith,
      send_fits c.args.s c.args.input.now (replicate 8192 (pos 0)) _ (length-replicate 8192 (pos 0))
          (c.in_ok-next.ensures.value ∙ ap (λ (x : List ℕ). send_answer c.args.s x (length (replicate 8192 (pos 0))) 0) e) _ refl _ (ap (λ (w : ℕ). length c.args.input.now / w) c.width_of-w.ensures),
    )))

pub returns-in_err-next-clause-value : goal.returns-in_err-next-clause-value
returns-in_err-next-clause-value c =
    let e = sent_is c.args.s c.args.input.now _ c.width_of-w.ensures in
    let p = err_from_is_err_and c.from_residual.result c.from_residual.ensures.1 in rw (p.1, p.2) (send_refused c.args.s c.args.input.now (replicate 8192 (pos 0)) _ (length-replicate 8192 (pos 0))
    (c.in_err-next.ensures.value ∙ ap (λ (x : List ℕ). send_answer c.args.s x (length (replicate 8192 (pos 0))) 0) e) _ c.args.out.now refl).0

pub returns-in_err-next-clause-number : goal.returns-in_err-next-clause-number
returns-in_err-next-clause-number c = send_numbered _ _ _ _ (returns-in_err-next-clause-value c)

pub returns-in_err-next-clause-out_after : goal.returns-in_err-next-clause-out_after
returns-in_err-next-clause-out_after c =
    let e = sent_is c.args.s c.args.input.now _ c.width_of-w.ensures in
    (send_refused c.args.s c.args.input.now (replicate 8192 (pos 0)) _ (length-replicate 8192 (pos 0))
    (c.in_err-next.ensures.value ∙ ap (λ (x : List ℕ). send_answer c.args.s x (length (replicate 8192 (pos 0))) 0) e) _ c.args.out.now refl).1

pub returns : goal.returns
returns c =
    let e = sent_is c.args.s c.args.input.now _ c.width_of-w.ensures in
    let answer = send_done c.args.s c.args.input.now (replicate 8192 (pos 0)) _ (length-replicate 8192 (pos 0))
    (c.in_ok-next.ensures.value ∙ ap (λ (x : List ℕ). send_answer c.args.s x (length (replicate 8192 (pos 0))) 0) e) _ refl _ _ c.args.out.now _ _ (ap (λ (w : ℕ). length c.args.input.now / w) c.width_of-w.ensures) c.if-input-gt8192.false
    (c.in_ok-next.ensures.out_after ∙ ap (λ (x : List ℕ). send_numbers c.args.s x (replicate 8192 (pos 0)) 0) e) c.hand_over.ensures.value c.hand_over.ensures.out_after in
    record { value = answer.0; number = send_numbered _ _ _ _ answer.0; out_after = answer.1 }
