use Rattle.apfloat_model.specs.{declared.kinds.Round.TheVariants.NearestTiesToEven, rounding.Flags.bits_of}
use Rattle.small_formats.proofs.blocks_lemmas.JointScales.{joint_is, joint_positive, joint_value}
use Rattle.small_formats.proofs.blocks.nvfp4_scales.joint_scale.Goals as goal

pub returns-clause-positive : goal.returns-clause-positive
returns-clause-positive c =
    joint_positive c.args.scale c.args.tensor c.multiply.result.value (bits_of c.multiply.result.status)
    c.requires.scale.some c.requires.tensor.some
    (joint_is NearestTiesToEven c.args.scale c.args.tensor c.multiply.result.value (bits_of c.multiply.result.status)
    c.requires.scale c.requires.tensor c.multiply.ensures)

pub returns-clause-value : goal.returns-clause-value
returns-clause-value c =
    joint_value c.args.scale c.args.tensor c.multiply.result.value (bits_of c.multiply.result.status)
    (joint_is NearestTiesToEven c.args.scale c.args.tensor c.multiply.result.value (bits_of c.multiply.result.status)
    c.requires.scale c.requires.tensor c.multiply.ensures)
