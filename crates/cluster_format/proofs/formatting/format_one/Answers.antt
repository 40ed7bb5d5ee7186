use Rattle.cluster_format.proofs.formatting.format_one.Goals as goal

pub give-requires-clause-told : goal.give-requires-clause-told
give-requires-clause-told g c now =
    let told = c.in-Ok.ensures.told (c.in-Ok.ensures.told_before now) in c.in-Err-fresh.ensures.told (told, (c.in-Ok.ensures.rests told).1)
