mod SampleHalves
