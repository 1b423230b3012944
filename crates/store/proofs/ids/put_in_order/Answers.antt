-- All words are put in order and read again.
use mathlib.Core.Path.{ap, ◌∙◌}
use Rattle.store.specs.Ids.{climbs}
use Rattle.store.proofs.Differing.{every_word}
use Rattle.store.proofs.ids.put_in_order.Goals as goal

pub returns : goal.returns
returns c = (c.climb.ensures ∙ ap climbs (every_word _ ∙ c.sort_ids.ensures), c.sort_ids.ensures)
