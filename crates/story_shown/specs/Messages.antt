-- That what is posted to a memory node it may be sent.
use Rattle.std.specs.Prelude.{◌≡◌, ℕ, length}
use Rattle.mini_tx.specs.declared.actor.Actor.TheVariants.{Memory}
use Rattle.mini_tx.specs.declared.posted.Posted.{Posted}
use Rattle.mem_rules.specs.declared.setup.Setup.{Setup}
use Rattle.mem_rules.specs.Fit.{IsFitMessage, size_of}
use Rattle.tx_rules.specs.Mini.{In}
use Rattle.story_rules.specs.Story.{Story}
use Rattle.story_laws.specs.Acts.{IsTold}

-- of a cluster with so many nodes, memory nodes and bytes an image
abbrev pub PostedAreFit : Type 0
PostedAreFit = (size : ℕ) (story : Story) (setup : Setup) (p : Posted) → IsTold size story → In p story.posted → p.to ≡ Memory setup.index
    → setup.geometry.nodes ≡ length story.nodes → setup.geometry.memories ≡ length story.opening → size_of setup ≡ size → IsFitMessage setup p.message
