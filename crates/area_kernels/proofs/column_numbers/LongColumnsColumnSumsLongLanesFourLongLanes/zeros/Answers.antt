use Rattle.pixel_formats.proofs.Zeros.{get_or-zeros}
use Rattle.area_kernels.proofs.column_numbers.LongColumnsColumnSumsLongLanesFourLongLanes.zeros.Goals as goal

pub returns : goal.returns
returns c i = get_or-zeros 784 i
