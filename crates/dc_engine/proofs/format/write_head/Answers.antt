use Rattle.std.proofs.Common.{◌≡◌, length, refl, arith}
use Rattle.byteorder.specs.Endian.{big_bytes}
use Rattle.dc_engine.proofs.bytes.Framed.{patched}
use Rattle.dc_engine.proofs.format.write_head.Goals as goal

pub returns : goal.returns
returns c =
    let count : c.args.out.now.len ≡ length c.args.out.now.items = let ok = c.args.out.now.ok in omega (arith, ok) in
    patched c.args.out.now.items c.deref_mut.result.now c.write_u32.new.buf (big_bytes 4 c.args.size) c.args.out.now.len c.args.start count c.deref_mut.ensures.value c.requires refl c.write_u32.ensures
