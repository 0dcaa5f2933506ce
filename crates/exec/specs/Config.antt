-- The configuration that runs start from.
use Rattle.std.specs.Prelude.{true}
use Rattle.runtime.specs.Profile.{safe_profile}
use Rattle.exec.specs.declared.config.CoreEnginePolicy.{CoreEnginePolicy}
use Rattle.exec.specs.declared.config.CoreEnginePolicy.TheVariants.{Auto}
use Rattle.exec.specs.declared.config.CoreConfig.{CoreConfig}

-- fuel and depth of the safe profile
abbrev pub default_config : CoreConfig
default_config =
    record {
      fuel = safe_profile.max_fuel;
      max_call_depth = safe_profile.max_call_depth;
      engine_policy = Auto;
      validate_before_execute = true;
      profile = safe_profile;
    }

-- another policy, and everything else as it is
abbrev pub with_policy : CoreConfig → CoreEnginePolicy → CoreConfig
with_policy c policy =
    record {
      fuel = c.fuel;
      max_call_depth = c.max_call_depth;
      engine_policy = policy;
      validate_before_execute = c.validate_before_execute;
      profile = c.profile;
    }
