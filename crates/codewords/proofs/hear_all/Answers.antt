use Prim.Native.Nat.{◌*◌, ◌<◌}
use native.Mathlib.Omega.{arith}
use Rattle.quantizer.proofs.Pairs.{pair_width}
use Rattle.frame.specs.Header.{group}
use Rattle.frame.specs.Read.{codewords}
use Rattle.frame.proofs.Codewords.{read_length, read_at, codeword_short}
use Rattle.codewords.proofs.Decoding.{decoding_none, decoding_heard, decoding_done}
use Rattle.codewords.proofs.hear_all.Goals as goal

pub loop-k-init : goal.loop-k-init
loop-k-init g c =
    let end = g.E.End in
    let h = c.args.h in
    let all = read_length h.width h.groups c.args.planes.now in
    decoding_none h.core h.width (end.heard c.args.end h.core h.width) (end.counted c.args.end h.core h.width) c.args.from (codewords h.width h.groups c.args.planes.now) c.args.out.now
    c.requires.memory (omega (arith, all, c.requires.room))

pub hear-heard-requires : goal.hear-heard-requires
hear-heard-requires g c =
    let width = pair_width c.requires.header.pair in
    let short = codeword_short c.args.h.width c.args.h.groups c.loop-k.k c.args.planes.now in (
      c.loop-k.invariant.range,
      c.requires.header.pair,
      rw (c.codeword_at-i.ensures, c.from.ensures) (record { least = width.least; most = width.most; short = short }),
    )

pub loop-k-preserved : goal.loop-k-preserved
loop-k-preserved g c =
    let end = g.E.End in
    let h = c.args.h in
    let all = read_length h.width h.groups c.args.planes.now in
    let more : c.loop-k.k < group * h.groups = omega (arith, c.requires.room) in
    let heard = c.hear-heard.ensures in
    decoding_heard h.core h.width (end.heard c.args.end h.core h.width) (end.counted c.args.end h.core h.width) c.args.from (codewords h.width h.groups c.args.planes.now) c.args.out.now c.hear-heard.result.sample c.loop-k.invariant (omega (arith, all, more))
    (rw (c.codeword_at-i.ensures, c.from.ensures, read_at h.width h.groups c.args.planes.now c.loop-k.k more))
    c.requires.header.pair
    (rw (c.codeword_at-i.ensures, c.from.ensures) (codeword_short h.width h.groups c.loop-k.k c.args.planes.now))
    heard.sample
    (rw c.from-disagreements.ensures heard.disagreement)
    (rw c.from-disagreements.ensures heard.few)
    heard.memory

pub returns : goal.returns
returns g c =
    let end = g.E.End in
    let h = c.args.h in
    let all = read_length h.width h.groups c.args.planes.now in
    decoding_done h.core h.width (end.heard c.args.end h.core h.width) (end.counted c.args.end h.core h.width) c.args.from (codewords h.width h.groups c.args.planes.now) c.args.out.now c.loop-k.invariant (omega (arith, c.loop-k.auto.k-end)) (omega (arith, all, c.requires.room, c.loop-k.auto.k-end))
