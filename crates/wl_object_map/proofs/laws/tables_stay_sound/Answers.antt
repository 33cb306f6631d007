use Rattle.wl_object_map.specs.Sounds.{Sound-opening, Sound-opened_at, Sound-opened, Sound-reopened, Sound-zombied}
use Rattle.wl_object_map.specs.Sounds.{Sound-closed}
use Rattle.wl_object_map.proofs.laws.tables_stay_sound.Goals as goal

pub returns-clause-opening : goal.returns-clause-opening
returns-clause-opening c = Sound-opening

pub returns-clause-opened_at : goal.returns-clause-opened_at
returns-clause-opened_at c = Sound-opened_at

pub returns-clause-opened : goal.returns-clause-opened
returns-clause-opened c = Sound-opened

pub returns-clause-reopened : goal.returns-clause-reopened
returns-clause-reopened c = Sound-reopened

pub returns-clause-zombied : goal.returns-clause-zombied
returns-clause-zombied c = Sound-zombied

pub returns-clause-closed : goal.returns-clause-closed
returns-clause-closed c = Sound-closed
