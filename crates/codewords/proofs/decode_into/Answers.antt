use mathlib.Core.Path.{refl}
use Rattle.codewords.specs.Codewords.{decoded_state}
use Rattle.codewords.proofs.decode_into.Goals as goal

pub returns : goal.returns
unfolding decoded_state
returns g c =
    let heard = rw c.requires.core at c.hear_all-run.ensures in
    record {
      number = refl;
      count_is = c.sample_count-n.ensures;
      disagreements_are = heard.disagreements_are;
      state = rw (c.moved_on.ensures, heard.memory, c.number_after.ensures);
      out = rw (heard.out, c.sample_count-n.ensures);
    }
