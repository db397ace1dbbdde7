use Rattle.std.proofs.Common.{refl, sym, ◌∙◌, ◌≡◌, ◌++◌, ◌+◌, ◌-◌, length, take, drop, arith}
use Rattle.byteorder.specs.Endian.{big_bytes}
use Rattle.dc_engine.proofs.bytes.Framed.{framed}
use Rattle.dc_engine.proofs.format.write_frame.Goals as goal

pub returns-clause-ok : goal.returns-clause-ok
returns-clause-ok g c =
    let was : c.len-start.result ≡ length c.args.out.now.items = let ok = c.args.out.now.ok in omega (arith, ok, c.len-start.ensures) in
    let head : c.len-head_end.result ≡ length c.extend_from_slice.new.self.items = let ok = c.extend_from_slice.new.self.ok in omega (arith, ok, c.len-head_end.ensures) in
    let all : c.len.result ≡ length c.write.new.out.items = let ok = c.write.new.out.ok in omega (arith, ok, c.len.ensures) in
    let size : c.in-Ok.size ≡ length c.write.new.out.items - length c.extend_from_slice.new.self.items - 1 = c.in-Ok.ensures.1 ∙ c.saturating_sub-size.ensures ∙ (λ i. all i - head i - 1) in
    framed c.args.out.now.items _ c.extend_from_slice.new.self.items c.write.new.out.items c.truncate.new.self.items c.write_head.new.out.items (g.W.Writer.spelled c.args.number c.args.step.now) c.in-Ok.size
    refl c.in_ok-extend_from_slice.ensures.items c.in_ok-write.ensures.ok size (c.truncate.ensures.items ∙ (λ i. take (head i + sym c.in-Ok.ensures.1 i) c.write.new.out.items))
    (c.write_head.ensures ∙ (λ i. take (was i) c.truncate.new.self.items ++ (big_bytes 4 c.in-Ok.size ++ drop (was i + 4) c.truncate.new.self.items)))
