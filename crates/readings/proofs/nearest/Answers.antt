use mathlib.Core.Path.{sym, subst, ◌∙◌}
use lib.Dec.{T}
use Rattle.levels.proofs.SignLaws.{n_back}
use Rattle.levels.proofs.RoundsProof.{cast_fits, cast_back}
use Rattle.levels.proofs.FieldLaws.{reach_number, size-most, units_signed, units_small}
use Rattle.readings.proofs.nearest.Goals as goal

pub float_to_bits-b : goal.float_to_bits-b
float_to_bits-b c = reach_number c.args.v c.requires

pub size_in_units-n-requires : goal.size_in_units-n-requires
size_in_units-n-requires c = size-most c.args.v (subst T (sym c.well_formed.0.1) tt) c.requires

pub with_sign-requires : goal.with_sign-requires
with_sign-requires c = rw (n_back c.size_in_units-n.result (units_small c.args.v (subst T (sym c.well_formed.0.1) tt) c.requires _ c.size_in_units-n.ensures)) (units_small c.args.v (subst T (sym c.well_formed.0.1) tt) c.requires _ c.size_in_units-n.ensures)

pub overflow_cast-result : goal.overflow_cast-result
overflow_cast-result c = cast_fits c.args.v c.requires _ (rw (n_back c.size_in_units-n.result (units_small c.args.v (subst T (sym c.well_formed.0.1) tt) c.requires _ c.size_in_units-n.ensures)) at c.with_sign.ensures ∙ units_signed c.args.v (subst T (sym c.well_formed.0.1) tt) c.requires _ c.size_in_units-n.ensures)

pub returns : goal.returns
returns c = cast_back c.args.v c.requires _ (rw (n_back c.size_in_units-n.result (units_small c.args.v (subst T (sym c.well_formed.0.1) tt) c.requires _ c.size_in_units-n.ensures)) at c.with_sign.ensures ∙ units_signed c.args.v (subst T (sym c.well_formed.0.1) tt) c.requires _ c.size_in_units-n.ensures)
