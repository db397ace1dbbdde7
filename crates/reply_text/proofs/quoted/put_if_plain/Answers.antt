use Rattle.std.proofs.Common.{rules}
use Rattle.reply_text.proofs.Plain.{item_plain}
use Rattle.reply_text.proofs.quoted.put_if_plain.Goals as goal

pub returns-clause-all : goal.returns-clause-all
returns-clause-all c =
    λ _. item_plain c.args.later c.args.item.now c.args.out.now.items c.put_opening.new.out.items c.put_plain.new.out.items c.push_reserved.new.self.items (search rules) (search rules) (search rules) c.push_reserved.ensures.items
