-- What each caller of a node is, by its number.
use Rattle.std.specs.Prelude.{ℕ, ◌+◌, ◌-◌, ◌*◌, ◌/◌, ◌%◌, ◌==◌, nat_lt, max, if◌then◌else◌}
use Rattle.node_run.specs.declared.roles.Role.{Role}
use Rattle.node_run.specs.declared.roles.Role.TheVariants.{Listener, Worker, Keeper, Connector, Rotator, Spare}

-- how many callers a node has with so many listeners, workers and outgoing links
abbrev pub callers_for : ℕ → ℕ → ℕ → ℕ
callers_for listeners workers links = 2 * max (listeners + workers) (links + 2)

-- the even numbers: the listeners, then the workers
abbrev even_role : ℕ → ℕ → ℕ → Role
even_role listeners workers place =
    if nat_lt place listeners then Listener place else if nat_lt place (listeners + workers) then Worker (place - listeners) else Spare

-- the odd numbers: the local connector, the links' connectors, the rotator
abbrev odd_role : ℕ → ℕ → Role
odd_role links place =
    if place == 0 then Keeper else if nat_lt place (links + 1) then Connector (place - 1) else if place == links + 1 then Rotator else Spare

-- who is left over only ends
abbrev pub role_of : ℕ → ℕ → ℕ → ℕ → Role
role_of listeners workers links caller = if caller % 2 == 0 then even_role listeners workers (caller / 2) else odd_role links (caller / 2)
