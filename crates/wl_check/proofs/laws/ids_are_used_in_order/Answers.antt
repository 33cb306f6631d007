use Rattle.wl_check.specs.Session.{changes_at, messages}
use Rattle.wl_check.proofs.FreshIds.{fresh}
use Rattle.wl_check.proofs.KnownAtPlace.{server_used_is, used_is}
use Rattle.wl_check.proofs.laws.ids_are_used_in_order.Goals as goal

pub returns-clause-of_client : goal.returns-clause-of_client
returns-clause-of_client c = λ tables session place id of_client.
    used_is (changes_at tables (messages tables session)) place id (λ q _. fresh tables session q) of_client

pub returns-clause-of_server : goal.returns-clause-of_server
returns-clause-of_server c = λ tables session place id of_server.
    server_used_is (changes_at tables (messages tables session)) place id (λ q _. fresh tables session q) of_server
