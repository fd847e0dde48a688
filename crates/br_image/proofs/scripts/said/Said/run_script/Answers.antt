use Rattle.br_image.proofs.ScriptValues.{run_says, there_once, is_there, told_once}
use Rattle.br_image.proofs.scripts.said.Said.run_script.Goals as goal

pub unwrap-requires : goal.unwrap-requires
unwrap-requires c =
    let s = run_says c.requires.lines c.requires.order in
    is_there c.args.self.call s.0.call (there_once c.args.self.call s.0.call _ c.requires.says.call s.1.call)

pub unwrap-requires-2 : goal.unwrap-requires-2
unwrap-requires-2 c =
    let s = run_says c.requires.lines c.requires.order in
    is_there c.args.self.args s.0.args (there_once c.args.self.args s.0.args _ c.requires.says.args s.1.args)

pub unwrap-requires-3 : goal.unwrap-requires-3
unwrap-requires-3 c =
    let s = run_says c.requires.lines c.requires.order in
    is_there c.args.self.junk s.0.junk (there_once c.args.self.junk s.0.junk _ c.requires.says.junk s.1.junk)

pub unwrap-requires-4 : goal.unwrap-requires-4
unwrap-requires-4 c =
    let s = run_says c.requires.lines c.requires.order in
    is_there c.args.self.limit s.0.limit (there_once c.args.self.limit s.0.limit _ c.requires.says.limit s.1.limit)

pub returns : goal.returns
returns c lines fit says =
    let s = run_says lines fit in
    record {
      call = told_once c.args.self.call s.0.call c.unwrap.result _ says.call s.1.call c.unwrap.ensures;
      args = told_once c.args.self.args s.0.args c.unwrap-2.result _ says.args s.1.args c.unwrap-2.ensures;
      mem = says.mem;
      junk = told_once c.args.self.junk s.0.junk c.unwrap-3.result _ says.junk s.1.junk c.unwrap-3.ensures;
      answers = says.answers;
      limit = told_once c.args.self.limit s.0.limit c.unwrap-4.result _ says.limit s.1.limit c.unwrap-4.ensures;
    }
