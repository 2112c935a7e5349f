-- The command is one of which clap says all.
use Rattle.std.proofs.Common.{◌≡◌, true, refl}
use Rattle.clap.specs.Words.{is_simple, is_simple_and_free}
use Rattle.clap.proofs.OnLiterals.{clap_on_literals}
use Rattle.command_line.specs.Options.{command}

pub command_is_simple : is_simple command ≡ true
unfolding clap_on_literals
command_is_simple = refl

pub command_is_free : is_simple_and_free command ≡ true
unfolding clap_on_literals
command_is_free = refl
