use Rattle.rows.proofs.Placing.{all_prepended}
use Rattle.rows.proofs.writing.put_figure.Goals as goal

pub loop-place-init : goal.loop-place-init
loop-place-init c =
    all_prepended c.args.n c.digits-count.result c.args.buffer.now c.ranges.n.fits c.digits-count.ensures.count
