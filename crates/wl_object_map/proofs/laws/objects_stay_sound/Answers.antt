use Rattle.wl_object_map.specs.ObjectsLaws.{ObjectsAreSound-opening, ObjectsAreSound-opened_at, ObjectsAreSound-opened, ObjectsAreSound-reopened}
use Rattle.wl_object_map.specs.ObjectsLaws.{ObjectsAreSound-zombied, ObjectsAreSound-closed}
use Rattle.wl_object_map.proofs.laws.objects_stay_sound.Goals as goal

pub returns-clause-opening : goal.returns-clause-opening
returns-clause-opening c = ObjectsAreSound-opening

pub returns-clause-opened_at : goal.returns-clause-opened_at
returns-clause-opened_at c = ObjectsAreSound-opened_at

pub returns-clause-opened : goal.returns-clause-opened
returns-clause-opened c = ObjectsAreSound-opened

pub returns-clause-reopened : goal.returns-clause-reopened
returns-clause-reopened c = ObjectsAreSound-reopened

pub returns-clause-zombied : goal.returns-clause-zombied
returns-clause-zombied c = ObjectsAreSound-zombied

pub returns-clause-closed : goal.returns-clause-closed
returns-clause-closed c = ObjectsAreSound-closed
