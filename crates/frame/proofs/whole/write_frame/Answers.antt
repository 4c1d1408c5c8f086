-- The planes stand behind the header's octets.
use Rattle.lists.proofs.Rest.{rest_lent, rest_back}
use Rattle.frame.specs.Planes.{frame_of}
use Rattle.frame.proofs.Headers.{planes_behind}
use Rattle.frame.proofs.whole.write_frame.Goals as goal

pub returns : goal.returns
unfolding frame_of
returns c =
    let headed = c.write_header.new.out in
    let n = c.header_length-n.result in
    rw (rest_back headed n, c.write_planes.ensures, rest_lent headed n, ← c.requires.1, c.header_length-n.ensures, c.write_header.ensures)
    (planes_behind c.args.h _ c.args.out.now _)
