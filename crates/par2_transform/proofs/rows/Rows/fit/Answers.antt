use Rattle.par2_transform.proofs.Names.{◌*◌, column_fits}
use Rattle.par2_transform.proofs.rows.Rows.fit.Goals as goal

pub returns : goal.returns
returns c =
    let inside = c.self.inside in
    rw (← c.self.view_is) (column_fits (record { levels = inside.levels; words = 32 * inside.width; vectors = inside.vectors.items }) c.self.invariant.0.fit)
