use Rattle.tree_command.proofs.shown.shown.Goals as goal

pub returns-in-Err-NoTree : goal.returns-in-Err-NoTree
returns-in-Err-NoTree c = c.in-Err-NoTree.ensures.none c.in-Err-NoTree.field-0-is
