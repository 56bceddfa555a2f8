use mathlib.Core.Path.{◌≡◌}
use lib.ListN.{length}
use native.Mathlib.Omega.{arith}
use Rattle.atoms.specs.Rows.{put}
use Rattle.capi.proofs.words.give.Goals as goal

pub returns : goal.returns
unfolding put
returns c =
    let four : length c.args.words ≡ 4 = omega arith in
    rw (c.copy_from_slice.ensures.after, four)
