use native.Mathlib.Omega.{arith}
use Rattle.listing.proofs.Texts.{track_free, track_room, track_wrote}
use Rattle.listing.proofs.put_track.Goals as goal

pub put_chain-end-requires : goal.put_chain-end-requires
put_chain-end-requires c = (
  track_free c.args.track.bytes.now _ _ _ _ c.args.track.accepted c.mode-mode.ensures c.role-role.ensures c.total.ensures c.fresh_state.ensures (omega arith),
  track_room c.args.track.bytes.now _ _ _ _ c.args.track.accepted c.mode-mode.ensures c.role-role.ensures c.total.ensures c.fresh_state.ensures _ c.put_first-at.ensures.behind,
)

pub put_sums-requires : goal.put_sums-requires
put_sums-requires c = (
  omega (arith, c.put_chain-end.ensures.behind, track_room c.args.track.bytes.now _ _ _ _ c.args.track.accepted c.mode-mode.ensures c.role-role.ensures c.total.ensures c.fresh_state.ensures _ c.put_first-at.ensures.behind),
  c.chain_sums.ensures.1,
)

pub returns : goal.returns
returns c =
    track_wrote c.args.track.bytes.now _ _ _ _ c.args.track.accepted c.mode-mode.ensures c.role-role.ensures c.total.ensures c.fresh_state.ensures _ c.chain_sums.ensures.0 c.put_first-at.ensures c.put_chain-end.ensures c.put_sums.ensures
